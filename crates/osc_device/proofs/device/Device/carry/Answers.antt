use Rattle.osc_device.proofs.device.Device.carry.Goals as goal

pub returns-clause-carries : goal.returns-clause-carries
returns-clause-carries g c = record {
  reaches = rw c.learnt-learnt.ensures.server c.served-served.ensures.served;
  comes_back = rw (c.served-served.ensures.own) at c.learnt-learnt.ensures.learnt;
}
