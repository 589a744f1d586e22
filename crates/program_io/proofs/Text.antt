-- The text of a number is what `{}` writes, and laws of lines.
use Rattle.std.proofs.Common.{◌≡◌, refl, sym, ap, List, append_assoc, [], ◌∷◌, ◌++◌, ℕ, zero, suc, ◌+◌, ◌*◌, ◌/◌, ◌^◌, ◌<◌, ◌≤◌, length, get_or, take, arith}
use lib.Chars.{codes}
use Rattle.std.proofs.lemmas.List.{take_all, take_more, flat_map_more}
use Rattle.std.specs.Fmt.{decimal as printed}
use Rattle.std.specs.List.{flat_map}
use Rattle.std.specs.Simd.{first_chunks}
use Rattle.std.proofs.lemmas.Fmt.{AppendsLastDigit, decimal_from_appends, length-decimal-le_succ}
use borrow.Author.Tests.{lt-ltb, le-ltb, eq-eqb, ne_eqb}
use Rattle.definition.specs.Answers.{absent}
use Rattle.definition.specs.Names.{bytes}
use Rattle.definition.specs.Numbers.{refusal_number, drawing_answer}
use Rattle.definition.specs.declared.Drawing.{Drawing}
use Rattle.definition.specs.declared.Drawn.{Drawn}
use Rattle.definition.specs.declared.refusal.Refusal.{Refusal}
use Rattle.definition.specs.declared.refusal.Refusal.TheVariants as R
use Rattle.std.specs.Prelude.{Result, Ok, Err}
use Rattle.program_io.specs.Text.{decimal_in, decimal}
use Rattle.program_io.specs.Listing.{word, line, lines, counts, refused, file_name, rows_shown, errors_shown, listing}

appends : AppendsLastDigit decimal_in
unfolding decimal_in
appends = record {
  one = λ k n h. rw (lt-ltb n 10 h);
  more = λ k n h. rw (le-ltb n 10 h);
}

-- What `{}` writes is the decimal digits.
pub printed_decimal : (n : ℕ) → n < 2 ^ 64 → decimal n ≡ printed n
unfolding decimal
printed_decimal n h = decimal_from_appends decimal_in appends (suc n) n h (let l = length-decimal-le_succ n h in omega arith)

pub word_absent : (w : ℕ) → w ≡ absent → word w ≡ 45 ∷ []
unfolding word bytes
word_absent w e = rw (eq-eqb w absent e)

pub word_number : (w : ℕ) → w < 2 ^ 64 → (w ≡ absent → ⊥) → word w ≡ printed w
unfolding word
word_number w h e = rw (ne_eqb w absent e, printed_decimal w h)

pub file_name_printed : (folder stem ending : List ℕ) (n : ℕ) → n < 2 ^ 64 → file_name folder stem n ending ≡ folder ++ (stem ++ (printed n ++ ending))
unfolding file_name
file_name_printed folder stem ending n h = rw (printed_decimal n h)

pub counts_printed : (title : List ℕ) (a b : ℕ) → a < 2 ^ 64 → b < 2 ^ 64 → counts title a b ≡ title ++ (printed a ++ (32 ∷ (printed b ++ (10 ∷ []))))
unfolding counts bytes
counts_printed title a b h k = rw (printed_decimal a h, printed_decimal b k)

pub refused_printed : (number card : ℕ) → number < 2 ^ 64 → card < 2 ^ 64 → refused number card ≡ codes "refused " ++ (printed number ++ (32 ∷ (printed card ++ (10 ∷ []))))
unfolding refused bytes
refused_printed number card h k = counts_printed (bytes "refused ") number card h k

-- A row of three words as its line, and so all rows.
abbrev pub row_line : List ℕ → List ℕ
row_line row = line (get_or row 0 0) (get_or row 1 0) (get_or row 2 0)

short_lines : (s : List ℕ) → length s < 3 → lines s ≡ []
unfolding lines
short_lines [] h = refl
short_lines (a ∷ []) h = refl
short_lines (a ∷ b ∷ []) h = refl
short_lines (a ∷ b ∷ c ∷ s) h = absurd (omega arith)

rows_lines : (k : ℕ) (s : List ℕ) → 3 * k ≤ length s → length s < 3 * k + 3 → flat_map row_line (first_chunks 3 k s) ≡ lines s
unfolding lines
rows_lines zero s h l = sym (short_lines s (omega arith))
rows_lines (suc k) [] h l = absurd (omega arith)
rows_lines (suc k) (a ∷ []) h l = absurd (omega arith)
rows_lines (suc k) (a ∷ b ∷ []) h l = absurd (omega arith)
rows_lines (suc k) (a ∷ b ∷ c ∷ s) h l = ap (λ (t : List ℕ). line a b c ++ t) (rows_lines k s (omega arith) (omega arith))

pub all_lines : (s : List ℕ) (rows : List (List ℕ)) (i : ℕ) → rows ≡ first_chunks 3 (length s / 3) s → length rows ≤ i
    → lines s ≡ flat_map row_line (take i rows)
all_lines s rows i e h = rw (take_all i rows h, e) (sym (rows_lines (length s / 3) s (omega arith) (omega arith)))

pub line_printed : (a b c : ℕ) → line a b c ≡ word a ++ (32 ∷ (word b ++ (32 ∷ (word c ++ (10 ∷ [])))))
unfolding line bytes
line_printed a b c = refl

pub more_lines : (rows : List (List ℕ)) (i : ℕ) → i < length rows → flat_map row_line (take i rows) ++ row_line (get_or rows i []) ≡ flat_map row_line (take (i + 1) rows)
more_lines rows i h = rw (take_more rows i [] h) (flat_map_more row_line [] (take i rows) (get_or rows i []))

listing_refused : (d : Drawing) (rows errors : List ℕ) → (d.number ≡ 0 → ⊥) → listing d rows errors ≡ refused d.number 0
unfolding listing
listing_refused d rows errors h = rw (ne_eqb d.number 0 h)

rows_printed : (count : ℕ) (rows first : List ℕ) → count < 2 ^ 64 → first ≡ take (3 * count) rows
    → rows_shown count rows ≡ codes "rows " ++ (printed count ++ (10 ∷ lines first))
unfolding rows_shown bytes
rows_printed count rows first h e = rw (printed_decimal count h, e)

errors_printed : (reading drawing : ℕ) (errors first : List ℕ) → reading < 2 ^ 64 → drawing < 2 ^ 64 → first ≡ take (3 * (reading + drawing)) errors
    → errors_shown reading drawing errors ≡ (codes "errors " ++ (printed reading ++ (32 ∷ (printed drawing ++ (10 ∷ []))))) ++ lines first
unfolding errors_shown bytes
errors_printed reading drawing errors first h k e =
    rw e (ap (λ (t : List ℕ). t ++ lines (take (3 * (reading + drawing)) errors)) (counts_printed (bytes "errors ") reading drawing h k))

listing_built : (d : Drawing) (rows errors : List ℕ) → d.number ≡ 0
    → listing d rows errors ≡ rows_shown d.rows rows ++ errors_shown d.reading_errors d.drawing_errors errors
unfolding listing
listing_built d rows errors h = rw (eq-eqb d.number 0 h)

regroup : (a p l e r q m : List ℕ) → (a ++ (p ++ (10 ∷ l))) ++ ((e ++ (r ++ (32 ∷ (q ++ (10 ∷ []))))) ++ m) ≡ a ++ (p ++ (10 ∷ (l ++ (e ++ (r ++ (32 ∷ (q ++ (10 ∷ m))))))))
regroup a p l e r q m = simp append_assoc

listing_printed : (d : Drawing) (rows errors first faults : List ℕ) → d.number ≡ 0
    → d.rows < 2 ^ 64 → d.reading_errors < 2 ^ 64 → d.drawing_errors < 2 ^ 64
    → first ≡ take (3 * d.rows) rows → faults ≡ take (3 * (d.reading_errors + d.drawing_errors)) errors
    → listing d rows errors ≡ codes "rows " ++ (printed d.rows ++ (10 ∷ (lines first
    ++ (codes "errors " ++ (printed d.reading_errors ++ (32 ∷ (printed d.drawing_errors ++ (10 ∷ lines faults))))))))
listing_printed d rows errors first faults e h k l f g =
    rw (listing_built d rows errors e, rows_printed d.rows rows first h f, errors_printed d.reading_errors d.drawing_errors errors faults k l g)
    (regroup (codes "rows ") (printed d.rows) (lines first) (codes "errors ") (printed d.reading_errors) (printed d.drawing_errors) (lines faults))

-- The same of a drawing as it is answered. No refusal has the number 0.
numbered : (r : Refusal) → refusal_number r ≡ 0 → ⊥
numbered R.CardsNotWhole h = omega arith
numbered R.UnknownKind h = omega arith
numbered R.ItemMisplaced h = omega arith
numbered R.NameMisplaced h = omega arith
numbered R.PartMisplaced h = omega arith
numbered R.BuiltInsFaulty h = omega arith
numbered R.SliceTooShort h = omega arith
numbered R.StoreTooShort h = omega arith
numbered R.StoreUnsound h = omega arith
numbered R.DocumentsFull h = omega arith
numbered R.TextFull h = omega arith
numbered R.CardsFull h = omega arith
numbered R.RowsUnsound h = omega arith
numbered R.NamePresence h = omega arith
numbered R.NameBytes h = omega arith
numbered R.NotInGrammar h = omega arith
numbered R.NestedTooDeep h = omega arith
numbered R.CardSliceTooShort h = omega arith

pub refusal_shown : (drawing : Result Drawn Refusal) (r : Refusal) (rows errors : List ℕ) → drawing ≡ Err r → listing (drawing_answer drawing) rows errors ≡ refused (refusal_number r) 0
refusal_shown drawing r rows errors e = rw e (listing_refused (drawing_answer (Err r)) rows errors (numbered r))

pub drawn_shown : (drawing : Result Drawn Refusal) (d : Drawn) (rows errors first faults : List ℕ) → drawing ≡ Ok d
    → d.rows < 2 ^ 64 → d.reading_errors < 2 ^ 64 → d.drawing_errors < 2 ^ 64
    → first ≡ take (3 * d.rows) rows → faults ≡ take (3 * (d.reading_errors + d.drawing_errors)) errors
    → listing (drawing_answer drawing) rows errors ≡ codes "rows " ++ (printed d.rows ++ (10 ∷ (lines first
    ++ (codes "errors " ++ (printed d.reading_errors ++ (32 ∷ (printed d.drawing_errors ++ (10 ∷ lines faults))))))))
drawn_shown drawing d rows errors first faults e h k l f g = rw e (listing_printed (drawing_answer (Ok d)) rows errors first faults refl h k l f g)
