-- A list written over the front of another, or into its unused tail: what a loop that writes makes of a lent part, said of the whole.
use mathlib.Core.Path.{◌≡◌, sym, ap, ◌∙◌}
use mathlib.Core.List.{List, ◌++◌, append_assoc, append-nil}
use Prim.Native.Nat.{ℕ, ◌+◌, ◌-◌, ◌<◌, ◌≤◌}
use native.Mathlib.Nat.{zero-add}
use native.Mathlib.Numerals.{add-one}
use native.Mathlib.Omega.{arith}
use lib.ListN.{length, get_or, take, drop, set, length-append, length-drop, take-append-drop, drop_of_length-le}
use lib.Seq.{take_all, take-length, length-take-le, take_at, drop_at, drop-drop, sets, sets-eq, paste, paste-zero, paste-suc}
use borrow.Rule.Slice.PartMut.{put_mid}
use Rattle.definition.specs.Lists.{written}

-- ---- A loop that copies one element a turn.

pub copied_none : (dst src : List ℕ) → dst ≡ paste dst 0 src 0
copied_none dst src = paste-zero dst 0 src

pub copied_next : (dst src : List ℕ) (i : ℕ) → i < length dst → i < length src → set (paste dst 0 src i) i (get_or src i 0) ≡ paste dst 0 src (i + 1)
copied_next dst src i h k =
    rw (add-one i) (ap (λ (n : ℕ). set (paste dst 0 src i) n (get_or src i 0)) (sym (zero-add i)) ∙ paste-suc dst 0 src i 0 (omega arith) k)

pub copied_all : (dst src : List ℕ) (i : ℕ) → i ≡ length src → paste dst 0 src i ≡ written dst 0 src
unfolding written
copied_all dst src i e = rw e

-- ---- A loop that writes some elements a turn: those before i are written, and those from i on are as they were.

pub front_written : (out l l₀ : List ℕ) (i : ℕ) → i ≤ length l → take i l ≡ out → drop i l ≡ drop i l₀ → l ≡ written l₀ 0 out
unfolding written
front_written out l l₀ i h t d =
    let n : length out ≡ i = ap length (sym t) ∙ length-take-le i l h in
    sym (take-append-drop i l) ∙ rw (take-length out, zero-add (length out), n, t, d)

pub drop_more : (k i : ℕ) (l l₀ : List ℕ) → drop i l ≡ drop i l₀ → drop (i + k) l ≡ drop (i + k) l₀
drop_more k i l l₀ e = sym (drop-drop k i l) ∙ ap (λ (x : List ℕ). drop k x) e ∙ drop-drop k i l₀

-- ---- The unused tail of a list, lent and come back.

tail_back : (a : ℕ) (w ys : List ℕ) → a ≤ length w → put_mid a (length w - a) w ys ≡ take a w ++ ys
tail_back a w ys h = rw (drop_of_length-le (drop a w) {i = length w - a} (simp length-drop (omega arith))) (ap (λ (l : List ℕ). take a w ++ l) (append-nil ys))

pub tail_written : (a : ℕ) (w s ys : List ℕ) → a ≤ length w → ys ≡ written (take (length w - a) (drop a w)) 0 s → put_mid a (length w - a) w ys ≡ written w a s
unfolding written
tail_written a w s ys h e =
    tail_back a w ys h
    ∙ ap (λ (l : List ℕ). take a w ++ l) (e ∙ simp (take_all (length w - a) (drop a w) (simp length-drop (omega arith)), zero-add, drop-drop))
    ∙ sym (append_assoc (take a w) (take (length s) s) (drop (a + length s) w))
