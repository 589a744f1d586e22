-- The public entries: of each, the answer and the contents at exit of every slice that is lent to be written. First what an account answers, with the
-- refusals that hang on it and on what is lent; then the same over a store, with 21 and 22 before them.
-- "Order: 21, 22, 26, 7, 1, then the first faulty card with its lowest of 2 to 5, 6, 23, 24, 25. Opening skips 22. 7 is asked of slices to be written, 26 of
-- rows to be read, 23 of filing alone." 2.1 puts 27 and 28 straight after 4 for a card. A refused call changes
-- nothing.
use Rattle.std.specs.Prelude.{List, [], ◌∷◌, ◌++◌, Bool, false, ◌||◌, ℕ, eqb, ltb, length, replicate}
use Rattle.definition.specs.declared.Answer.{Answer}
use Rattle.definition.specs.declared.Drawing.{Drawing}
use Rattle.definition.specs.declared.OperationType.{OperationType}
use Rattle.definition.specs.Lists.{choose, found, flat_map, written}
use Rattle.definition.specs.Names.{bytes_at}
use Rattle.definition.specs.Answers.{answer, FieldLookup, Refused, SubtypeLookup, Subtype, NotSubtype}
use Rattle.definition.specs.Cards.{words_of_card}
use Rattle.definition.specs.ItemCards.{cards_read}
use Rattle.definition.specs.Reading.{Reading, accepted as accepted_by, refused, reading}
use Rattle.definition.specs.Headings.{NamedCard}
use Rattle.definition.specs.Catalogue.{Row}
use Rattle.definition.specs.Errors.{Error}
use Rattle.definition.specs.Merge.{Merged, merge, error_numbers, tallies}
use Rattle.definition.specs.Account.{Account}
use Rattle.definition.specs.Refusals.{document, opening_refusal, filing_refusal, text_capacity, card_capacity, read_cards_capacity, rows_capacity}
use Rattle.definition.specs.Refusals.{errors_capacity}
use Rattle.definition.specs.Refusals.{groups_capacity, origins_capacity}
use Rattle.definition.specs.Store.{account_in, too_short, store_refusal, opened_text, opened_words, filed_text, filed_words, adopting_words, ignoring_words}
use Rattle.definition.specs.LentRows.{held, lent_rows, rows_refusal, name_numbered}
use Rattle.definition.specs.Lookups.{Span, span, root_row, root_card, root_span, field_named, is_subtype_of, origin_list, extension_list, groups, group_words}

-- ---- Opening, filing, turning a switch on: the answer, and the store's text and words at exit.

pub record StoreOutcome : Type 0 where
  pub answer : Answer
  pub text : List ℕ
  pub words : List ℕ

unfoldable pub unchanged : List ℕ → List ℕ → Answer → StoreOutcome
unchanged text words a = record { answer = a; text = text; words = words }

unfoldable pub accepted : List ℕ → List ℕ → StoreOutcome
accepted text words = record { answer = answer 0 0; text = text; words = words }

-- `open`: 21, 1, the first faulty card, 6, 24, 25. (The name `open` is the language's own.)
unfoldable pub open_store : List ℕ → List ℕ → List ℕ → List ℕ → StoreOutcome
open_store text words lent cards =
    let d = document false lent cards in
    let done = accepted (opened_text text d) (opened_words words d) in
    let tried = found (opening_refusal lent cards) (unchanged text words) done in
    choose (too_short text words) (unchanged text words (answer 21 0)) tried

-- `add_ast`: 21, 22, 1, the first faulty card, 23, 24, 25.
unfoldable pub add_ast : List ℕ → List ℕ → List ℕ → List ℕ → StoreOutcome
add_ast text words lent cards =
    let n = store_refusal text words in
    let d = document false lent cards in
    let done = accepted (filed_text text words d) (filed_words words d) in
    let tried = found (filing_refusal (account_in text words) lent cards) (unchanged text words) done in
    choose (eqb n 0) tried (unchanged text words (answer n 0))

-- Turning on: 21, 22.
unfoldable pub turned : List ℕ → List ℕ → List ℕ → StoreOutcome
turned text words on =
    let n = store_refusal text words in
    let done = accepted text on in
    choose (eqb n 0) done (unchanged text words (answer n 0))

unfoldable pub adopt_orphan_extensions : List ℕ → List ℕ → StoreOutcome
adopt_orphan_extensions text words = turned text words (adopting_words words)

unfoldable pub ignore_builtin_redefinitions : List ℕ → List ℕ → StoreOutcome
ignore_builtin_redefinitions text words = turned text words (ignoring_words words)

-- ---- Drawing: the answer, and the rows and errors slices at exit.

pub record BuildOutcome : Type 0 where
  pub drawing : Drawing
  pub rows : List ℕ
  pub errors : List ℕ

unfoldable pub words_of_row : Row → List ℕ
words_of_row r = r.what ∷ r.card ∷ r.origin ∷ []

unfoldable pub words_of_error : Error → List ℕ
words_of_error e = e.number ∷ e.card ∷ e.earlier ∷ []

-- Refused: the number, all counts and tallies 0.
unfoldable pub unbuilt : List ℕ → List ℕ → ℕ → BuildOutcome
unbuilt rows errors n = record {
  drawing = record {
    number = n;
    rows = 0;
    reading_errors = 0;
    drawing_errors = 0;
    tallies = record { counts = replicate error_numbers 0; total = 0 };
  };
  rows = rows;
  errors = errors;
}

-- Drawn: "the row count, two error counts (while reading documents, while drawing) and one tally for each error number", the rows, and the errors with
-- those of reading first. "Words of a lent slice past what is written stay."
unfoldable pub merged_into : List ℕ → List ℕ → Merged → BuildOutcome
merged_into rows errors c =
    let es = c.reading_errors ++ c.drawing_errors in
    record {
      drawing = record {
        number = 0;
        rows = length c.rows;
        reading_errors = length c.reading_errors;
        drawing_errors = length c.drawing_errors;
        tallies = record { counts = tallies es; total = length es };
      };
      rows = written rows 0 (flat_map words_of_row c.rows);
      errors = written errors 0 (flat_map words_of_error es);
    }

-- 7: a slice to be written that is shorter than its room.
unfoldable pub is_short : ℕ → List ℕ → Bool
is_short capacity lent = ltb (length lent) capacity

unfoldable pub build_of : Account → List ℕ → List ℕ → BuildOutcome
build_of a rows errors =
    let done = merged_into rows errors (merge a.adopt a.documents) in
    choose (is_short rows_capacity rows || is_short errors_capacity errors) (unbuilt rows errors 7) done

-- `build`: 21, 22, 7.
unfoldable pub build : List ℕ → List ℕ → List ℕ → List ℕ → BuildOutcome
build text words rows errors =
    let n = store_refusal text words in
    let done = build_of (account_in text words) rows errors in
    choose (eqb n 0) done (unbuilt rows errors n)

-- ---- Lookups that only read: 21, 22, 26.

-- `check_rows`: "a checking entry over the same store and rows returns the refusal's number, or 0 and 0".
unfoldable pub check_of : Account → List ℕ → Answer
check_of a rows = answer (rows_refusal a.documents rows) 0

unfoldable pub check_rows : List ℕ → List ℕ → List ℕ → Answer
check_rows text words rows =
    let n = store_refusal text words in
    let done = check_of (account_in text words) rows in
    choose (eqb n 0) done (answer n 0)

-- `root_operation` "hands back the name as a part of the store's text, empty if none or refused": which part, and its bytes.
pub record RootName : Type 0 where
  pub bytes : List ℕ
  pub part : Span

unfoldable pub no_root : RootName
no_root = record { bytes = []; part = span 0 0 }

-- The account has no store's text: the bytes are the name's in its own document, and the part is counted through the documents' texts.
unfoldable pub root_bytes : List NamedCard → List Row → OperationType → List ℕ
root_bytes cs rs op = found (root_row rs op) (λ r. name_numbered cs (root_card cs rs r)) []

unfoldable pub root_of : Account → List ℕ → OperationType → RootName
root_of a rows op =
    let cs = held a.documents in
    let rs = lent_rows rows in
    let done : RootName = record { bytes = root_bytes cs rs op; part = root_span a.documents cs rs op } in
    choose (eqb (rows_refusal a.documents rows) 0) done no_root

unfoldable pub part_of : List ℕ → Span → RootName
part_of text s = record { bytes = bytes_at text s.at s.size; part = s }

unfoldable pub root_operation : List ℕ → List ℕ → List ℕ → OperationType → RootName
root_operation text words rows op =
    let n = store_refusal text words in
    let done = part_of text (root_of (account_in text words) rows op).part in
    choose (eqb n 0) done no_root

-- `type_field`
unfoldable pub field_of_type : Account → List ℕ → List ℕ → List ℕ → FieldLookup
field_of_type a rows type field =
    let n = rows_refusal a.documents rows in
    let done = field_named (held a.documents) (lent_rows rows) type field in
    choose (eqb n 0) done (Refused n)

unfoldable pub type_field : List ℕ → List ℕ → List ℕ → List ℕ → List ℕ → FieldLookup
type_field text words rows type field =
    let n = store_refusal text words in
    let done = field_of_type (account_in text words) rows type field in
    choose (eqb n 0) done (Refused n)

-- `is_subtype`
unfoldable pub subtype_answer : Account → List ℕ → List ℕ → List ℕ → SubtypeLookup
subtype_answer a rows general other =
    let n = rows_refusal a.documents rows in
    let done = choose (is_subtype_of (held a.documents) (lent_rows rows) general other) Subtype NotSubtype in
    choose (eqb n 0) done (SubtypeLookup.Refused n)

unfoldable pub is_subtype : List ℕ → List ℕ → List ℕ → List ℕ → List ℕ → SubtypeLookup
is_subtype text words rows general other =
    let n = store_refusal text words in
    let done = subtype_answer (account_in text words) rows general other in
    choose (eqb n 0) done (SubtypeLookup.Refused n)

-- ---- Calls that fill a slice.

pub record ListOutcome : Type 0 where
  pub answer : Answer
  pub list : List ℕ

unfoldable pub unlisted : List ℕ → ℕ → ListOutcome
unlisted lent n = record { answer = answer n 0; list = lent }

unfoldable pub listed_in : List ℕ → ℕ → List ℕ → ListOutcome
listed_in lent count ws = record { answer = answer 0 count; list = written lent 0 ws }

-- ---- Reading a text, which needs no store. (2.2)

-- "Accepted, it returns 0 and the card count": the slice begins with the cards' words. 29 and 30 return their place in the text; 25 is asked last.
abbrev pub parsed : List ℕ → Reading → ListOutcome
parsed lent (accepted_by es) =
    let cs = cards_read es in
    let done = listed_in lent (length cs) (flat_map words_of_card cs) in
    choose (ltb card_capacity (length cs)) (unlisted lent 25) done
parsed lent (refused n p) = record { answer = answer n p; list = lent }

-- `parse`: 31, 24, then 29 or 30 by place in the text, 25.
unfoldable pub parse : List ℕ → List ℕ → ListOutcome
parse text lent =
    let done = parsed lent (reading text) in
    let tried = choose (ltb text_capacity (length text)) (unlisted lent 24) done in
    choose (is_short read_cards_capacity lent) (unlisted lent 31) tried

-- ---- Lookups that fill a slice: 21, 22, 26, 7. The answer is 0 and how many origins or groups were written.

-- 26, then 7, else what is done.
unfoldable pub unless_refused : Account → List ℕ → ℕ → List ℕ → ListOutcome → ListOutcome
unless_refused a rows capacity lent done =
    let n = rows_refusal a.documents rows in
    let fits = choose (is_short capacity lent) (unlisted lent 7) done in
    choose (eqb n 0) fits (unlisted lent n)

unfoldable pub origins_of : Account → List ℕ → List ℕ → ListOutcome
origins_of a rows lent =
    let ws = origin_list (lent_rows rows) in
    let done = listed_in lent (length ws) ws in
    unless_refused a rows origins_capacity lent done

unfoldable pub extensions_in : Account → List ℕ → List ℕ → ListOutcome
extensions_in a rows lent =
    let ws = extension_list (lent_rows rows) in
    let done = listed_in lent (length ws) ws in
    unless_refused a rows origins_capacity lent done

unfoldable pub implementers_of : Account → List ℕ → List ℕ → ListOutcome
implementers_of a rows lent =
    let gs = groups (held a.documents) (lent_rows rows) in
    let done = listed_in lent (length gs) (flat_map group_words gs) in
    unless_refused a rows groups_capacity lent done

-- `iter_origins`
unfoldable pub iter_origins : List ℕ → List ℕ → List ℕ → List ℕ → ListOutcome
iter_origins text words rows lent =
    let n = store_refusal text words in
    let done = origins_of (account_in text words) rows lent in
    choose (eqb n 0) done (unlisted lent n)

-- `extensions`
unfoldable pub extensions : List ℕ → List ℕ → List ℕ → List ℕ → ListOutcome
extensions text words rows lent =
    let n = store_refusal text words in
    let done = extensions_in (account_in text words) rows lent in
    choose (eqb n 0) done (unlisted lent n)

-- `implementers_map`: "Groups now stand in the order of their naming cards' rows." (2.3)
unfoldable pub implementers_map : List ℕ → List ℕ → List ℕ → List ℕ → ListOutcome
implementers_map text words rows lent =
    let n = store_refusal text words in
    let done = implementers_of (account_in text words) rows lent in
    choose (eqb n 0) done (unlisted lent n)
