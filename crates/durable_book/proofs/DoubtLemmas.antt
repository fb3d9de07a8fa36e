-- What is left in doubt, from what the parts of a call left.
use Rattle.std.proofs.Common.{◌≡◌, ◌⊎◌, Option, Some, None, refl, subst, sym, inl, inr}
use Rattle.sched_plain.specs.declared.step.Step.{Step}
use Rattle.step_keeper.specs.declared.fault.KeepFault.{KeepFault}
use Rattle.step_keeper.specs.declared.fault.KeepFault.TheVariants as whys
use Rattle.step_keeper.specs.Faults.{Leaves}
use Rattle.durable_book.specs.declared.denial.Denial.{Denial}
use Rattle.durable_book.specs.declared.denial.Denial.TheVariants as denials
use Rattle.durable_book.specs.Doubts.{IsOwn, IsOwnDoubt, IsLeft}

-- nothing is
pub none_own : (doubt : Option Step) → doubt ≡ None → IsOwnDoubt doubt
none_own doubt none = subst IsOwnDoubt (sym none) tt

pub nothing_left : (denial : Denial) (doubt : Option Step) → doubt ≡ None → IsLeft denial doubt
nothing_left (denials.Rule broken) doubt none = none
nothing_left (denials.Full end need) doubt none = none
nothing_left denials.DiskFault doubt none = none_own doubt none
nothing_left denials.OutOfMemory doubt none = none

-- what was in doubt still is
pub still_own : (before now : Option Step) → now ≡ before → IsOwnDoubt before → IsOwnDoubt now
still_own before now same own = subst IsOwnDoubt (sym same) own

-- the step that was to be kept is, perhaps
pub perhaps_own : (s : Step) (doubt : Option Step) → (doubt ≡ None) ⊎ (doubt ≡ Some s) → IsOwn s → IsOwnDoubt doubt
perhaps_own s doubt (inl none) own = none_own doubt none
perhaps_own s doubt (inr is) own = subst IsOwnDoubt (sym is) own

-- a denial that is told as what it is leaves the same
pub left_as : (denial told : Denial) (doubt : Option Step) → told ≡ denial → IsLeft denial doubt → IsLeft told doubt
left_as denial told doubt is left = subst (λ (d : Denial). IsLeft d doubt) (sym is) left

-- one that is told as a fault of the disk exactly where it is one leaves the same
pub left_told : (denial told : Denial) (doubt : Option Step) → (told ≡ denials.DiskFault → denial ≡ denials.DiskFault)
    → (denial ≡ denials.DiskFault → told ≡ denials.DiskFault) → IsLeft denial doubt → IsLeft told doubt
left_told denial denials.DiskFault doubt is says left = subst (λ (d : Denial). IsLeft d doubt) (is refl) left
left_told (denials.Rule other) (denials.Rule broken) doubt is says left = left
left_told (denials.Full e n) (denials.Rule broken) doubt is says left = left
left_told denials.OutOfMemory (denials.Rule broken) doubt is says left = left
left_told denials.DiskFault (denials.Rule broken) doubt is says left = let e = says refl in absurd (cc e)
left_told (denials.Rule other) (denials.Full end need) doubt is says left = left
left_told (denials.Full e n) (denials.Full end need) doubt is says left = left
left_told denials.OutOfMemory (denials.Full end need) doubt is says left = left
left_told denials.DiskFault (denials.Full end need) doubt is says left = let e = says refl in absurd (cc e)
left_told (denials.Rule other) denials.OutOfMemory doubt is says left = left
left_told (denials.Full e n) denials.OutOfMemory doubt is says left = left
left_told denials.OutOfMemory denials.OutOfMemory doubt is says left = left
left_told denials.DiskFault denials.OutOfMemory doubt is says left = let e = says refl in absurd (cc e)
