use mathlib.Core.Path.{sym}
use Rattle.store_check.proofs.Sound.{accepted}
use Rattle.api.proofs.LookupRefusal.{store_number}
use Rattle.api.proofs.refusals.checked.Goals as goal

pub check_rows-requires : goal.check_rows-requires
check_rows-requires c = (accepted _ _ (sym (store_number _ _ _ c.in_ok-check_store.ensures))).1
