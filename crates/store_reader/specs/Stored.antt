-- What a store's words and its one text say of cards, by positions: the definitions speak of documents with texts of their own, code reads these.
-- proofs/Laws.antt shows that for a sound store both say the same.
use Rattle.std.specs.Prelude.{List, [], ◌∷◌, Bool, false, ◌||◌, not, ℕ, ◌+◌, ◌-◌, eqb, ltb, length, drop, get_or}
use Rattle.std.proofs.Math.ListN.{get_elem?}
use Rattle.definition.specs.Lists.{choose, found, take_until}
use Rattle.definition.specs.Cards.{Card, is_part}
use Rattle.definition.specs.Headings.{NamedCard, Heading}
use Rattle.definition.specs.Store.{documents_at, DocumentRow, document_rows, stored_cards, cards_used_of}
use Rattle.definition.specs.LentRows.{cards_named}
-- What the words alone say of one card is passed on.
unfoldable pub use Rattle.store_reader.specs.Cards.{card_word, card_kind, name_start, name_size, card_name, next_card}

-- ---- Cards.

-- Every stored card: its number, its kind and its name's bytes, which are read in the store's text at the span that is stored.
unfoldable pub stored_parts : List ℕ → List ℕ → List NamedCard
stored_parts text words = cards_named text 0 (stored_cards words)

-- The kind of a card by its number; 0 where no such card is held.
unfoldable pub kind_numbered : List NamedCard → ℕ → ℕ
kind_numbered cs n = found (get_elem? cs n) (λ c. c.kind) 0

-- A card with its kind and its name, by the words.
abbrev pub card_at : List ℕ → List ℕ → ℕ → NamedCard
card_at text words n = record { number = n; kind = card_kind words n; name = card_name text words n }

-- The kinds in which a name is or may be absent.
unfoldable pub may_lack_name : ℕ → Bool
may_lack_name k = eqb k 1 || eqb k 4 || eqb k 11

-- ---- The documents that cards are from.

-- How many cards document 0 has: they are the first ones, and built-in.
unfoldable pub built_in_count : List ℕ → ℕ
built_in_count words = get_or words (documents_at + 2) 0

unfoldable pub built_in_at : List ℕ → ℕ → Bool
built_in_at words n = ltb n (built_in_count words)

-- The ignore switch when the document was filed that has the card n, counted from these rows' first card on.
unfoldable pub ignored_in : List DocumentRow → ℕ → Bool
ignored_in [] n = false
ignored_in (r ∷ rs) n =
    let later = ignored_in rs (n - r.card_count) in
    choose (ltb n r.card_count) (eqb r.ignored 1) later

unfoldable pub ignored_at : List ℕ → ℕ → Bool
ignored_at words n = ignored_in (document_rows words) n

-- ---- Headings with their parts.

abbrev pub heading_with : Bool → Bool → NamedCard → List NamedCard → Heading
heading_with b i c ps = record { number = c.number; kind = c.kind; name = c.name; built_in = b; ignored = i; parts = ps }

-- The parts before the first heading, and the headings with their parts; a card's number tells whether it is built-in and whether it is ignored.
unfoldable pub headings_of : (ℕ → Bool) → (ℕ → Bool) → List NamedCard → List NamedCard × List Heading
headings_of b i [] = ([], [])
headings_of b i (c ∷ cs) =
    let r = headings_of b i cs in
    let under : List NamedCard × List Heading = (c ∷ r.0, r.1) in
    let new : List NamedCard × List Heading = ([], heading_with (b c.number) (i c.number) c r.0 ∷ r.1) in
    choose (is_part c.kind) under new

unfoldable pub stored_headings : List ℕ → List ℕ → List Heading
stored_headings text words = (headings_of (built_in_at words) (ignored_at words) (stored_parts text words)).1

-- The parts that stand from position i on, up to the next heading.
unfoldable pub is_heading_item : NamedCard → Bool
is_heading_item c = not (is_part c.kind)

unfoldable pub parts_from : List NamedCard → ℕ → List NamedCard
parts_from cs i = take_until is_heading_item (drop i cs)

-- The headings that stand from position i on.
unfoldable pub stored_headings_from : List ℕ → List ℕ → ℕ → List Heading
stored_headings_from text words i = (headings_of (built_in_at words) (ignored_at words) (drop i (stored_parts text words))).1

-- The heading at position i with its parts.
abbrev pub heading_at : List ℕ → List ℕ → ℕ → Heading
heading_at text words i = heading_with (built_in_at words i) (ignored_at words i) (card_at text words i) (parts_from (stored_parts text words) (i + 1))

-- How many parts stand from position i on, up to the next heading: by the words alone.
unfoldable pub is_heading_card : Card → Bool
is_heading_card c = not (is_part c.kind)

unfoldable pub part_run : List ℕ → ℕ → ℕ
part_run words i = length (take_until is_heading_card (drop i (stored_cards words)))

-- The first position from i on that has no part.
unfoldable pub heading_from : List ℕ → ℕ → ℕ
heading_from words i = i + part_run words i

-- The first position after n that has a heading; the number of cards where there is none.
unfoldable pub next_heading : List ℕ → ℕ → ℕ
next_heading words n = choose (ltb n (cards_used_of words)) (n + 1 + part_run words (n + 1)) (cards_used_of words)
