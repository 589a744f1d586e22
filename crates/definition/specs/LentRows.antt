-- Rows that are lent to a lookup, and refusal 26, which holds them against the documents held.
use Rattle.std.specs.Prelude.{List, [], ◌∷◌, ◌++◌, Bool, true, false, ◌&&◌, ◌||◌, not, ℕ, ◌+◌, ◌/◌, ◌%◌, eqb, leb, ltb, length, get_or}
use Rattle.std.proofs.Math.Option.{Option}
use Rattle.std.proofs.Math.ListN.{get_elem?}
use Rattle.definition.specs.Lists.{choose, found, all, is_empty, find, repeats, chunks}
use Rattle.definition.specs.Names.{same_name}
use Rattle.definition.specs.Answers.{absent}
use Rattle.definition.specs.Cards.{Card, is_root, is_type, is_extension, part_order, place_in}
use Rattle.definition.specs.Headings.{Document, NamedCard, named_card}
use Rattle.definition.specs.Catalogue.{Row, row, default_name}

-- ---- Cards by their numbers.

-- The cards held, with kind and name's bytes, numbered on through the documents.
unfoldable pub cards_named : List ℕ → ℕ → List Card → List NamedCard
cards_named text n [] = []
cards_named text n (c ∷ cs) = named_card text n c ∷ cards_named text (n + 1) cs

unfoldable pub held_from : ℕ → List Document → List NamedCard
held_from n [] = []
held_from n (d ∷ ds) = cards_named d.text n d.cards ++ held_from (n + length d.cards) ds

unfoldable pub held : List Document → List NamedCard
held ds = held_from 0 ds

-- The name of a card by its number; empty where no such card is held.
unfoldable pub name_numbered : List NamedCard → ℕ → List ℕ
name_numbered cs n = found (get_elem? cs n) (λ c. c.name) []

-- ---- Rows.

-- The rows that lent words are.
unfoldable pub lent_row : List ℕ → Row
lent_row ws = row (get_or ws 0 0) (get_or ws 1 0) (get_or ws 2 0)

unfoldable pub lent_rows : List ℕ → List Row
lent_rows ws = chunks 3 lent_row (length ws / 3) ws

unfoldable pub is_row_named : List NamedCard → List ℕ → Row → Bool
is_row_named cs n r = same_name n (name_numbered cs r.card)

unfoldable pub is_type_row : Row → Bool
is_type_row r = is_type r.what

unfoldable pub is_type_row_named : List NamedCard → List ℕ → Row → Bool
is_type_row_named cs n r = is_type_row r && is_row_named cs n r

-- "the first type row of a name counts"
unfoldable pub first_type_row : List NamedCard → List Row → List ℕ → Option Row
first_type_row cs rs n = find (is_type_row_named cs n) rs

-- A default root is a root row whose card and origin are `-`.
unfoldable pub is_default_root : Row → Bool
is_default_root r = is_root r.what && eqb r.card absent && eqb r.origin absent

-- ---- The clauses of 26, which refuses lent rows "not a multiple of three words, not beginning with a row 4," and so on.

-- "out of the catalogue's order of kinds (one row 4, each root at most once)": the order under the row 4, directive definitions included, and under a type
-- row, by the type's kind.
unfoldable pub row_order : ℕ → List (List ℕ)
row_order k = choose (eqb k 4) ((20 ∷ []) ∷ (26 ∷ []) ∷ (27 ∷ []) ∷ (28 ∷ []) ∷ (3 ∷ []) ∷ []) (part_order k)

-- The place of a row of kind w in the order under a row of kind k.
abbrev pub row_place : ℕ → ℕ → ℕ
row_place k w = place_in (row_order k) w

-- Whether it may stand there after a row at place p: its kind is in the order, not before p, and of a root, which is there at most once, after p.
abbrev pub in_place : ℕ → ℕ → ℕ → Bool
in_place k p w = ltb (row_place k w) (length (row_order k)) && leb p (row_place k w) && not (is_root w && eqb p (row_place k w))

-- The rows keep the order, standing under a row of kind k and after one at place p. A type row may stand anywhere, and its own order begins under it.
unfoldable pub in_order : ℕ → ℕ → List Row → Bool
in_order k p [] = true
in_order k p (r ∷ rs) =
    let type = in_order r.what 0 rs in
    let rest = in_order k (row_place k r.what) rs in
    let part = choose (in_place k p r.what) rest false in
    choose (is_type_row r) type part

-- They begin with a row 4 and keep the order after it, in which there is no other row 4.
unfoldable pub order_passes : List NamedCard → List Row → Bool
order_passes cs [] = false
order_passes cs (r ∷ rs) = eqb r.what 4 && in_order 4 0 rs

-- "with a stored card in the second word of two rows"
unfoldable pub same_card : Row → Row → Bool
same_card r s = eqb r.card s.card && not (eqb r.card absent)

unfoldable pub cards_once : List NamedCard → List Row → Bool
cards_once cs rs = is_empty (repeats same_card [] rs)

-- "with a card not stored (`-` passes in row 4 and a default root) or not of the row's kind (an adopted type's: the matching extension)": an adopted type's
-- row is one with an origin.
unfoldable pub wanted_kind : Row → ℕ
wanted_kind r = choose (is_type_row r && not (eqb r.origin absent)) (r.what + 7) r.what

unfoldable pub card_passes : List NamedCard → Row → Bool
card_passes cs r =
    choose (eqb r.card absent) (eqb r.what 4 || is_default_root r) (found (get_elem? cs r.card) (λ c. eqb c.kind (wanted_kind r)) false)

unfoldable pub cards_pass : List NamedCard → List Row → Bool
cards_pass cs rs = all (card_passes cs) rs

-- "with an origin neither `-` nor a stored card of 11 to 17"
unfoldable pub origin_passes : List NamedCard → Row → Bool
origin_passes cs r = eqb r.origin absent || found (get_elem? cs r.origin) (λ c. is_extension c.kind) false

unfoldable pub origins_pass : List NamedCard → List Row → Bool
origins_pass cs rs = all (origin_passes cs) rs

-- "or a default root whose name's first type row is no object"
unfoldable pub default_root_passes : List NamedCard → List Row → Row → Bool
default_root_passes cs rs r = not (is_default_root r) || found (first_type_row cs rs (default_name r.what)) (λ t. eqb t.what 6) false

unfoldable pub default_roots_pass : List NamedCard → List Row → Bool
default_roots_pass cs rs = all (default_root_passes cs rs) rs

-- All clauses, in 01's order.
unfoldable pub row_clauses : List (List NamedCard → List Row → Bool)
row_clauses = order_passes ∷ cards_once ∷ cards_pass ∷ origins_pass ∷ default_roots_pass ∷ []

unfoldable pub passes : List NamedCard → List Row → (List NamedCard → List Row → Bool) → Bool
passes cs rs clause = clause cs rs

-- 26 where the words are "not a multiple of three words" or a clause fails, else 0.
unfoldable pub rows_refusal : List Document → List ℕ → ℕ
rows_refusal ds ws =
    let whole : ℕ = choose (all (passes (held ds) (lent_rows ws)) row_clauses) 0 26 in
    choose (eqb (length ws % 3) 0) whole 26
