-- The words by which holders and the lock speak of the bolt, and where it goes.
use Rattle.std.specs.Prelude.{ℕ, List, codes}
use Rattle.osc_example.specs.declared.bolt.Bolt.{Bolt}
use Rattle.osc_example.specs.declared.bolt.Bolt.TheVariants as bolt
use Rattle.osc_example.specs.declared.bolt.Motor.{Motor}
use Rattle.osc_example.specs.declared.bolt.Motor.TheVariants as motor
use Rattle.osc_example.specs.declared.bolt.Wanted.{Wanted}
use Rattle.osc_example.specs.declared.bolt.Wanted.TheVariants as wanted

-- what a holder writes to `/lock/wanted`
abbrev pub wanted_word : Wanted → List ℕ
wanted_word wanted.Open = codes "open"
wanted_word wanted.Shut = codes "shut"

-- what the lock writes to `/lock/actual`
abbrev pub bolt_word : Bolt → List ℕ
bolt_word bolt.Open = codes "open"
bolt_word bolt.Shut = codes "shut"
bolt_word bolt.Jammed = codes "jammed"

-- where the bolt is, once the motor has tried
abbrev pub bolt_after : Motor → Wanted → Bolt
bolt_after motor.Runs wanted.Open = bolt.Open
bolt_after motor.Runs wanted.Shut = bolt.Shut
bolt_after motor.Sticks wanted = bolt.Jammed
