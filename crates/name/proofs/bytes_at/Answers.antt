use mathlib.Core.Path.{◌≡◌}
use mathlib.Core.Path.{refl}
use native.Mathlib.Nat.{add_comm}
use native.Mathlib.Omega.{arith}
use Rattle.name.proofs.Laws.{part_bytes}
use Rattle.name.proofs.bytes_at.Goals as goal

pub returns : goal.returns
returns c = record {
  bytes = part_bytes _ _ _ _ _ c.min-from.ensures c.min.ensures;
  block = refl;
  place = λ h. let f : c.min-from.result ≡ c.args.at = omega arith in rw f (add_comm _ _);
}
