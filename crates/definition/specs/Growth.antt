-- 01, "The plain account of a run": in what words an earlier drawing is compared with a later one.
use Rattle.std.specs.Prelude.{◌≡◌, List, [], ◌∷◌, map, ℕ, ◌*◌, length, take}
use Rattle.std.proofs.Math.Option.{Option, none, some}
use Rattle.definition.specs.declared.FieldFound.TheVariants.{Explicit}
use Rattle.definition.specs.Answers.{Found, Subtype}
use Rattle.definition.specs.Lists.{Prefix, Among, Within, found, filter, take_until}
use Rattle.definition.specs.Headings.{Document, NamedCard, Heading, headings, definition}
use Rattle.definition.specs.Catalogue.{Row}
use Rattle.definition.specs.Store.{account_in}
use Rattle.definition.specs.LentRows.{held, lent_rows, is_type_row, is_type_row_named}
use Rattle.definition.specs.Lookups.{Block, type_named, is_row_of, Group, groups}
use Rattle.definition.specs.Outcomes.{BuildOutcome, type_field, is_subtype}
use Rattle.definition.specs.Calls.{Store}

-- ---- A type.

-- "A type is brought by a definition if a document held has a heading 5 to 10 of its name, the first being its heading card."
abbrev pub Brings : List Document → List ℕ → Heading → Type 0
Brings ds n d = definition n (headings ds) ≡ some d

-- The card of its row.
unfoldable pub card_of : List NamedCard → List Row → List ℕ → Option ℕ
card_of cs rs n = found (type_named cs rs n) (λ b. some b.head.card) none

-- "Its place is the number of type rows before it"
unfoldable pub place_of : List NamedCard → List Row → List ℕ → ℕ
place_of cs rs n = length (filter is_type_row (take_until (is_type_row_named cs n) rs))

-- "its lists are the rows under it, one list a kind, in order"
unfoldable pub list_in : ℕ → Block → List Row
list_in k b = filter (is_row_of k) b.parts

unfoldable pub list_of : List NamedCard → List Row → List ℕ → ℕ → List Row
list_of cs rs n k = found (type_named cs rs n) (list_in k) []

-- ---- Groups, as `implementers_map` lists them.

-- Card c names one of them.
abbrev pub Names : List Group → ℕ → Type 0
Names gs c = Among c (map (λ g. g.naming) gs)

-- The group that card c names stands before the one that card d names.
abbrev pub NamesBefore : List Group → ℕ → ℕ → Type 0
NamesBefore gs c d = Within (c ∷ d ∷ []) (map (λ g. g.naming) gs)

-- Card c is a 21 of the type n.
abbrev pub ImplementedBy : List NamedCard → List Row → List ℕ → ℕ → Type 0
ImplementedBy cs rs n c = Among c (map (λ r. r.card) (list_of cs rs n 21))

-- ---- A drawing.

-- "with exactly its rows": the words of the rows that it wrote.
unfoldable pub rows_of : BuildOutcome → List ℕ
rows_of o = take (o.drawing.rows * 3) o.rows

-- "they stand first, as many as the first error count": the words of its reading errors.
unfoldable pub reading_errors_of : BuildOutcome → List ℕ
reading_errors_of o = take (o.drawing.reading_errors * 3) o.errors

-- ---- Two drawings: the earlier left the store s and wrote o, the later left t and wrote p.

abbrev pub documents_in : Store → List Document
documents_in s = (account_in s.text s.words).documents

abbrev pub cards_in : Store → List NamedCard
cards_in s = held (documents_in s)

abbrev pub built_rows : BuildOutcome → List Row
built_rows o = lent_rows (rows_of o)

-- Of each type that a definition had brought at the earlier, d being its heading:
pub record TypeGrown (s t : Store) (o p : BuildOutcome) (n : List ℕ) (d : Heading) : Type 0 where
  -- its heading card is its row's card at both;
  pub card : (card_of (cards_in s) (built_rows o) n ≡ some d.number) × (card_of (cards_in t) (built_rows p) n ≡ some d.number)
  -- it keeps its place among the types;
  pub place : place_of (cards_in s) (built_rows o) n ≡ place_of (cards_in t) (built_rows p) n
  -- each of its lists begins with the earlier one, card and origin alike;
  pub each_list : (k : ℕ) → Prefix (list_of (cards_in s) (built_rows o) n k) (list_of (cards_in t) (built_rows p) n k)
  -- an explicit field that was found is found again by the same card;
  pub field : (f : List ℕ) (c : ℕ) →
      type_field s.text s.words (rows_of o) n f ≡ Found (Explicit c) → type_field t.text t.words (rows_of p) n f ≡ Found (Explicit c)
  -- a subtype that a definition had brought too remains one,
  pub subtype : (m : List ℕ) (e : Heading) → Brings (documents_in s) m e →
      is_subtype s.text s.words (rows_of o) n m ≡ Subtype → is_subtype t.text t.words (rows_of p) n m ≡ Subtype
  -- and a union's members remain, brought or not.
  pub member : (d.kind ≡ 8) → (m : List ℕ) →
      is_subtype s.text s.words (rows_of o) n m ≡ Subtype → is_subtype t.text t.words (rows_of p) n m ≡ Subtype

pub record Grown (s t : Store) (o p : BuildOutcome) : Type 0 where
  pub types : (n : List ℕ) (d : Heading) → Brings (documents_in s) n d → TypeGrown s t o p n d
  pub errors : Prefix (reading_errors_of o) (reading_errors_of p)

-- The groups of two naming cards, the first a 21 of a type that a definition had brought at the earlier, keep their order, if both cards still name.
-- Such a type keeps its place, and all that stood after it stands after it again. Of two adopted types the second may change places with the first: it
-- does when a definition brings it (proofs/RunExamples.antt). And a card may lose its group to one that names the interface in a row before.
abbrev pub OrderKept : Store → Store → BuildOutcome → BuildOutcome → Type 0
OrderKept s t o p =
    (n : List ℕ) (e : Heading) → Brings (documents_in s) n e → (c d : ℕ) → ImplementedBy (cards_in s) (built_rows o) n c →
    NamesBefore (groups (cards_in s) (built_rows o)) c d →
    Names (groups (cards_in t) (built_rows p)) c → Names (groups (cards_in t) (built_rows p)) d →
    NamesBefore (groups (cards_in t) (built_rows p)) c d
