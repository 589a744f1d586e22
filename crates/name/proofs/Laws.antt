-- The laws of a Name's test and of the comparison of names, those too that other crates cite.
use mathlib.Core.Path.{◌≡◌, refl, sym, ◌∙◌}
use mathlib.Core.Bool.{Bool, true, false, ◌||◌}
use mathlib.Core.List.{List, [], ◌∷◌}
use Prim.Native.Nat.{ℕ, min, ◌+◌, ◌-◌, ◌<◌, ◌≤◌}
use native.Mathlib.Numerals.{add-one}
use native.Mathlib.Omega.{arith}
use borrow.Author.Tests.{ne_eqb, le-leb, lt-leb}
use lib.Dec.{leb, eqb}
use lib.ListN.{length, get_or, take, drop, length-drop}
use lib.Seq.{drop-cons, take_all}
use Rattle.std.specs.Cmp.Lexicographic.{pointwise}
use Rattle.std.proofs.lemmas.List.{drop_min, take_min}
use Rattle.std.proofs.lemmas.Bool.Decides.{same_from_decides, Decides-eqb}
use Rattle.std.proofs.lemmas.Slice.Eq.{slice_eq-Decides}
use Rattle.definition.proofs.StdLists.{all_is_std}
use Rattle.std.specs.List.{list_all}
use Rattle.definition.specs.Names.{is_name_start, is_name_byte, is_name, same_name, bytes_at}
use Rattle.definition.proofs.Lists.{same_name_eq, same_name_refl}

-- ---- A byte of a name.

pub start_low : (b : ℕ) → b < 65 → is_name_start b ≡ false
unfolding is_name_start
start_low b h = simp (lt-leb 65 b (omega arith), lt-leb 97 b (omega arith), ne_eqb b 95 (omega arith))

pub start_lower : (b : ℕ) → 97 ≤ b → is_name_start b ≡ leb b 122
unfolding is_name_start
start_lower b h = go (leb b 122) (simp (le-leb 65 b (omega arith), lt-leb b 90 (omega arith), le-leb 97 b h, ne_eqb b 95 (omega arith)))
  where
    go : (t : Bool) → is_name_start b ≡ (t || false) → is_name_start b ≡ t
    go true e = e
    go false e = e

pub continue_start : (b : ℕ) → is_name_start b ≡ true → is_name_byte b ≡ true
unfolding is_name_byte
continue_start b e = simp e

pub continue_digit : (b : ℕ) → is_name_start b ≡ false → 48 ≤ b → is_name_byte b ≡ leb b 57
unfolding is_name_byte
continue_digit b e h = simp (e, le-leb 48 b h)

-- ---- A name.

pub name_empty : (s : List ℕ) → length s ≡ 0 → is_name s ≡ false
unfolding is_name
name_empty [] h = refl
name_empty (x ∷ xs) h = absurd (omega arith)

pub name_bad : (s : List ℕ) (b : ℕ) (bs : List ℕ) → s ≡ b ∷ bs → is_name_start b ≡ false → is_name s ≡ false
unfolding is_name
name_bad s b bs e h = rw (e, h)

pub name_good : (s : List ℕ) (b : ℕ) (bs : List ℕ) → s ≡ b ∷ bs → is_name_start b ≡ true → is_name s ≡ list_all is_name_byte bs
unfolding is_name
name_good s b bs e h = rw (e, h) (all_is_std is_name_byte bs)

pub step : (s : List ℕ) (i : ℕ) → i < length s → drop i s ≡ get_or s i 0 ∷ drop (i + 1) s
step s i h = rw (add-one, drop-cons s i 0)

-- ---- Two names.

-- What a caller makes of the equality of their bytes.
pub same_decided : (m n : List ℕ) (r : Bool) → r ≡ pointwise eqb m n → r ≡ same_name m n
same_decided m n r e = same_from_decides r (same_name m n) (slice_eq-Decides Decides-eqb m n r e) (same_name_eq m n, (λ k. rw k (same_name_refl n)))

-- ---- A span.

-- What is cut at the text's end has the bytes of what is not cut.
pub part_bytes : (s : List ℕ) (at len from size : ℕ) → from ≡ min at (length s) → size ≡ min len (length (take (length s - from) (drop from s))) →
    take size (take (length s - from) (drop from s)) ≡ bytes_at s at len
unfolding bytes_at
part_bytes s at len from size e f =
    let k : take (length s - from) (drop from s) ≡ drop from s = take_all (length s - from) (drop from s) (simp length-drop (omega arith)) in
    let d : drop from s ≡ drop at s = rw e (drop_min at s) in
    let n : size ≡ min len (length (drop at s)) = rw (k, d) at f in
    rw (k, d, n) (take_min len (drop at s))

-- ---- The comparison is equality.

pub same_sym : (m n : List ℕ) → same_name m n ≡ same_name n m
same_sym m n = go (same_name m n) (same_name n m) refl refl
  where
    go : (s t : Bool) → same_name m n ≡ s → same_name n m ≡ t → s ≡ t
    go true true e f = refl
    go false false e f = refl
    go true false e f = let k : m ≡ n = same_name_eq m n e in sym (same_name_refl n) ∙ (rw k at f)
    go false true e f = let k : n ≡ m = same_name_eq n m f in sym e ∙ (rw k (same_name_refl m))
