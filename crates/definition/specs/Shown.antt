-- How the examples of Table and Examples are written down: documents as quoted texts with card words, drawn as 01's listing draws them.
use Rattle.std.specs.Prelude.{List, [], ◌∷◌, Bool, ℕ}
use Rattle.std.proofs.Math.Option.{Option, none, some}
use Prim.Native.String.{String}
use Rattle.definition.specs.Lists.{choose, found, flat_map}
use Rattle.definition.specs.Names.{bytes}
use Rattle.definition.specs.Answers.{absent}
use Rattle.definition.specs.Catalogue.{Row}
use Rattle.definition.specs.Errors.{Error}
use Rattle.definition.specs.Merge.{Merged, merge}
use Rattle.definition.specs.Account.{Account}
use Rattle.definition.specs.Refusals.{opening_refusal, filing_refusal}
use Rattle.definition.specs.Outcomes.{words_of_row}
use Rattle.definition.specs.Calls.{opened_account, joined, adopting_from, ignoring_from}

-- 01's `-`.
abbrev pub ∅ : ℕ
∅ = absent

-- Rows, errors while reading documents, errors while drawing.
abbrev pub shows : List Row → List Error → List Error → Option Merged
shows rs reading drawing = some (record { rows = rs; reading_errors = reading; drawing_errors = drawing })

-- A document: its text and its card words.
pub record Source : Type 0 where
  pub text : List ℕ
  pub words : List ℕ

unfoldable pub source : String → List ℕ → Source
source s ws = record { text = bytes s; words = ws }

-- Document 0 opened, a document filed: none where it is refused.
unfoldable pub open_source : Source → Option Account
open_source s = found (opening_refusal s.text s.words) (λ r. none) (some (opened_account s.text s.words))

unfoldable pub file_source : Source → Account → Option Account
file_source s a = found (filing_refusal a s.text s.words) (λ r. none) (some (joined a s.text s.words))

unfoldable pub file_sources : List Source → Account → Option Account
file_sources [] a = some a
file_sources (s ∷ ss) a = found (file_source s a) (file_sources ss) none

-- The adopt switch and the ignore switch are turned on after document 0.
unfoldable pub switched : Bool → Bool → Account → Account
switched adopt ignore a =
    let i = choose ignore (ignoring_from a) a in
    choose adopt (adopting_from i) i

unfoldable pub collected : Bool → Bool → Source → List Source → Option Account
collected adopt ignore zero ss = found (open_source zero) (λ a. file_sources ss (switched adopt ignore a)) none

unfoldable pub merged : Account → Option Merged
merged a = some (merge a.adopt a.documents)

-- The catalogue of document 0 and the documents after it, none where one is refused.
unfoldable pub shown : Bool → Bool → Source → List Source → Option Merged
shown adopt ignore zero ss = found (collected adopt ignore zero ss) merged none

-- The words of an account's rows.
unfoldable pub words_of_rows : Account → List ℕ
words_of_rows a = flat_map words_of_row (merge a.adopt a.documents).rows

-- What a lookup answers over a collection and exactly its rows, none where a document is refused.
unfoldable pub asked {ℓ} : {A : Type ℓ} → Option Account → (Account → List ℕ → A) → Option A
asked o f = found o (λ a. some (f a (words_of_rows a))) none

-- `scalar Int`, document 0 of most examples.
unfoldable pub scalar_int : Source
scalar_int = source "scalar Int" (5 ∷ 0 ∷ 10 ∷ 7 ∷ 3 ∷ [])
