-- Laws of what is put into a buffer, of decimal digits and of lines.
use mathlib.Core.Path.{◌≡◌, refl, sym, ap, ◌∙◌}
use mathlib.Core.Bool.{Bool, true, false}
use mathlib.Core.List.{List, [], ◌∷◌, ◌++◌, append_assoc, append-nil}
use Prim.Native.Nat.{ℕ, zero, suc, ◌+◌, ◌-◌, ◌*◌, ◌/◌, ◌%◌, ◌^◌, ◌<◌, ◌≤◌}
use native.Mathlib.Nat.{pow-suc}
use native.Mathlib.Numerals.{add-one, towards_suc}
use native.Mathlib.Omega.{arith}
use lib.Dec.{ltb}
use lib.ListN.{length, get_or, take, drop, set, length-append, length-take, length-drop}
use lib.Seq.{drop-cons, take-suc-set}
use borrow.Author.Tests.{lt-ltb, le-ltb, ltb-true, ltb-false, eq-eqb, ne_eqb}
use Rattle.definition.specs.Answers.{absent}
use Rattle.definition.specs.declared.Drawing.{Drawing}
use Rattle.definition.specs.Names.{bytes}
use Rattle.program_io.specs.Text.{Put, decimal_in, decimal}
use Rattle.program_io.specs.Listing.{word, line, lines, refused, rows_shown, errors_shown, listing}

-- One byte, and what was put after another.
pub put_one : (l : List ℕ) (i v : ℕ) → i < length l → Put l i (v ∷ []) (set l i v) (i + 1)
put_one l i v h = record { place = refl; text = rw add-one (take-suc-set l i v h) }

pub then : {a : List ℕ} {p : ℕ} {xs : List ℕ} {b : List ℕ} {q : ℕ} {ys : List ℕ} {c : List ℕ} {r : ℕ}
    → Put a p xs b q → Put b q ys c r → Put a p (xs ++ ys) c r
then {a} {p} {xs} {b} {q} {ys} {c} {r} h k = record {
  place = let e = h.place in let f = k.place in simp length-append (omega arith);
  text = k.text ∙ ap (λ (l : List ℕ). l ++ ys) h.text ∙ append_assoc (take p a) xs ys;
}

-- A loop that puts `all` from a place on: `rest` is left to be put.
pub record Left (old : List ℕ) (at : ℕ) (all : List ℕ) (now : List ℕ) (end : ℕ) (rest : List ℕ) : Type 0 where
  pub place : end + length rest ≡ at + length all
  pub text : take end now ++ rest ≡ take at old ++ all

pub left_turn : {l : List ℕ} {at : ℕ} {all b : List ℕ} {q : ℕ} {xs rest c : List ℕ} {r : ℕ}
    → Left l at all b q (xs ++ rest) → Put b q xs c r → Left l at all c r rest
left_turn {l} {at} {all} {b} {q} {xs} {rest} {c} {r} h k = record {
  place = let e = simp length-append at h.place in let f = k.place in omega arith;
  text = ap (λ (x : List ℕ). x ++ rest) k.text ∙ append_assoc (take q b) xs rest ∙ h.text;
}

pub left_none : {l : List ℕ} {at : ℕ} {all b : List ℕ} {q : ℕ} → Left l at all b q [] → Put l at all b q
left_none {l} {at} {all} {b} {q} h = record {
  place = let e = h.place in omega arith;
  text = sym (append-nil (take q b)) ∙ h.text;
}

-- Fuel above the number is enough.
enough : (f g n : ℕ) → n < f → n < g → decimal_in f n ≡ decimal_in g n
unfolding decimal_in
enough zero g n h k = absurd (omega arith)
enough (suc f) zero n h k = absurd (omega arith)
enough (suc f) (suc g) n h k = go (ltb n 10) refl (λ u v. enough f g (n / 10) u v)
  where
    go : (b : Bool) → ltb n 10 ≡ b → (n / 10 < f → n / 10 < g → decimal_in f (n / 10) ≡ decimal_in g (n / 10)) → decimal_in (suc f) n ≡ decimal_in (suc g) n
    go true e i = rw e
    go false e i = let m = ltb-false n 10 e in rw (e, i (omega arith) (omega arith))

pub decimal_one : (n : ℕ) → n < 10 → decimal n ≡ (48 + n) ∷ []
unfolding decimal
decimal_one n h = rw (lt-ltb n 10 h)

pub decimal_more : (n : ℕ) → 10 ≤ n → decimal n ≡ decimal (n / 10) ++ ((48 + n % 10) ∷ [])
unfolding decimal
decimal_more n h = rw (le-ltb n 10 h) (ap (λ (l : List ℕ). l ++ ((48 + n % 10) ∷ [])) (enough n (suc (n / 10)) (n / 10) (omega arith) (omega arith)))

-- A number below 10 to the k has at most k digits, and at least one.
pub decimal_short : (k n : ℕ) → n < 10 ^ suc k → length (decimal n) ≤ suc k
decimal_short zero n h = simp (decimal_one n h) (omega arith)
decimal_short (suc k) n h = go (ltb n 10) refl (λ u. decimal_short k (n / 10) u)
  where
    go : (b : Bool) → ltb n 10 ≡ b → (n / 10 < 10 ^ suc k → length (decimal (n / 10)) ≤ suc k) → length (decimal n) ≤ suc (suc k)
    go true e i = rw (decimal_one n (ltb-true n 10 e)) (omega arith)
    go false e i =
        let m : n < 10 ^ suc k * 10 = rw pow-suc at h in
        let l = i (omega arith) in
        rw (decimal_more n (ltb-false n 10 e)) (simp length-append (omega arith))

-- The widths of words and of sizes.
pub decimal_32 : (n : ℕ) → n < 2 ^ 32 → length (decimal n) ≤ 10
decimal_32 n h = decimal_short 9 n (omega arith)

pub decimal_64 : (n : ℕ) → n < 2 ^ 64 → length (decimal n) ≤ 20
decimal_64 n h = decimal_short 19 n (omega arith)

pub word_absent : (w : ℕ) → w ≡ absent → word w ≡ 45 ∷ []
unfolding word bytes
word_absent w e = rw (eq-eqb w absent e)

pub word_number : (w : ℕ) → (w ≡ absent → ⊥) → word w ≡ decimal w
unfolding word
word_number w e = rw (ne_eqb w absent e)

-- Three words at a place, and where fewer are left.
pub drop3 : (s : List ℕ) (i : ℕ) → i + 3 ≤ length s → drop i s ≡ get_or s i 0 ∷ get_or s (i + 1) 0 ∷ get_or s (i + 2) 0 ∷ drop (i + 3) s
drop3 s i h =
    simp towards_suc (
    drop-cons s i 0 (omega arith)
    ∙ ap (λ (l : List ℕ). get_or s i 0 ∷ l) (drop-cons s (suc i) 0 (omega arith)
    ∙ ap (λ (l : List ℕ). get_or s (suc i) 0 ∷ l) (drop-cons s (suc (suc i)) 0 (omega arith)))
    )

pub lines_more : (s : List ℕ) (i : ℕ) → i + 3 ≤ length s → lines (drop i s) ≡ line (get_or s i 0) (get_or s (i + 1) 0) (get_or s (i + 2) 0) ++ lines (drop (i + 3) s)
unfolding lines
lines_more s i h = rw (drop3 s i h)

short_lines : (s : List ℕ) → length s < 3 → lines s ≡ []
unfolding lines
short_lines [] h = refl
short_lines (a ∷ []) h = refl
short_lines (a ∷ b ∷ []) h = refl
short_lines (a ∷ b ∷ c ∷ s) h = absurd (omega arith)

pub lines_end : (s : List ℕ) (i : ℕ) → length s - i < 3 → lines (drop i s) ≡ []
lines_end s i h = short_lines (drop i s) (simp length-drop h)

pub part_short : (n : ℕ) (l r : List ℕ) → r ≡ take n l → length r ≤ length l
part_short n l r e = rw (e, length-take) (omega arith)

pub listing_refused : (d : Drawing) (rows errors : List ℕ) → (d.number ≡ 0 → ⊥) → listing d rows errors ≡ refused d.number 0
unfolding listing
listing_refused d rows errors h = rw (ne_eqb d.number 0 h)

pub listing_built : (d : Drawing) (rows errors : List ℕ) → d.number ≡ 0
    → listing d rows errors ≡ rows_shown d.rows rows ++ errors_shown d.reading_errors d.drawing_errors errors
unfolding listing
listing_built d rows errors h = rw (eq-eqb d.number 0 h)
