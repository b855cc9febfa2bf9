-- What a handle owns: nothing and a null pointer, or a box at its pointer.
use base.Fml.{Fml, feq}
use denote.RattleType.{RattleType}
use denote.RawPtr.{Ptr, null_ptr}
use Rattle.std.specs.declared.option.Option.{Option}
use Rattle.std.specs.declared.option.Option.TheVariants.{None, Some}
use Rattle.std.specs.declared.alloc.Global.{Global}
use Rattle.std.specs.contracts.impls.GlobalAllocator.TheImpl.{ghosts}
use Rattle.std.specs.Box.Ownership.{box_owns}

-- R is the type of what is held, a the allocator's handle, p the pointer.
module _ (R : RattleType) (a : Global) (p : Ptr) where
  abbrev pub holds : Option R.Denot → Fml
  holds None = feq Ptr p null_ptr
  holds (Some x) = box_owns (ghosts.dealloc_token a) R p x
