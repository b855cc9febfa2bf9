use Rattle.osc_device.proofs.beginning.own_client.Goals as goal

pub returns-clause-holds : goal.returns-clause-holds
returns-clause-holds g c =
    let made = c.in_ok-desk.ensures in
    let found = made.scope in
    let sealed = made.sealed in
    record {
      entries = found.0;
      scope = found.1;
      ciphertext = sealed.0;
      sealed = sealed.1;
      desk = c.in_ok-desk.field-0.desk;
      granted = sealed.2;
      is = c.in_ok-client.ensures;
    }
