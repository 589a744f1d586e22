-- 01, "Cards", and the refusals 1 to 5 of "Refused for what is lent".
use Rattle.std.specs.Prelude.{List, [], ◌∷◌, Bool, true, false, ◌&&◌, ◌||◌, not, ℕ, suc, ◌+◌, ◌-◌, ◌/◌, ◌%◌, eqb, leb, ltb, length, get_or}
use Rattle.std.proofs.Math.Option.{Option, none, some}
use Rattle.definition.specs.declared.Answer.{Answer}
use Rattle.definition.specs.Lists.{choose, found, any, chunks}
use Rattle.definition.specs.Names.{is_name, bytes_at}
use Rattle.definition.specs.Answers.{answer}

-- ---- Words and cards.

-- How many words a card has.
abbrev pub card_words : ℕ
card_words = 5

-- "A card is five words: kind, item offset, item length, name offset, name length." An item and a name are spans of the document's text.
pub record Card : Type 0 where
  pub kind : ℕ
  pub item_at : ℕ
  pub item_len : ℕ
  pub name_at : ℕ
  pub name_len : ℕ

-- The card that a list of words begins with; a missing word counts as 0.
unfoldable pub card_from : List ℕ → Card
card_from ws = record { kind = get_or ws 0 0; item_at = get_or ws 1 0; item_len = get_or ws 2 0; name_at = get_or ws 3 0; name_len = get_or ws 4 0 }

-- The words of a card.
unfoldable pub words_of_card : Card → List ℕ
words_of_card c = c.kind ∷ c.item_at ∷ c.item_len ∷ c.name_at ∷ c.name_len ∷ []

-- The first n cards of a list of words.
unfoldable pub cards_from : ℕ → List ℕ → List Card
cards_from n ws = chunks card_words card_from n ws

-- The cards that lent words are.
unfoldable pub cards_of : List ℕ → List Card
cards_of ws = cards_from (length ws / card_words) ws

-- ---- Kinds.

-- "Headings have the kinds 1 to 17 in the order of `ast::Definition`: 1 operation, 2 fragment, 3 directive, 4 schema, 5 to 10 scalar, object, interface,
-- union, enum, input object; 11 schema extension, 12 to 17 the six extensions."
unfoldable pub is_heading : ℕ → Bool
is_heading k = leb 1 k && leb k 17

-- "Parts follow their heading: 20 directive use, 21 implemented interface, 22 object or interface field, 23 member, 24 enum value, 25 input field,
-- 26 query, 27 mutation, 28 subscription (name: the root's type)."
unfoldable pub is_part : ℕ → Bool
is_part k = leb 20 k && leb k 28

-- The kinds of root operations.
unfoldable pub is_root : ℕ → Bool
is_root k = leb 26 k && leb k 28

-- The kinds of type definitions.
unfoldable pub is_type : ℕ → Bool
is_type k = leb 5 k && leb k 10

-- The kinds of extensions, the schema's included.
unfoldable pub is_extension : ℕ → Bool
is_extension k = leb 11 k && leb k 17

-- What a heading of a kind defines or extends, 4 to 10: an extension's kind is seven more than its definition's. 0 for kinds 1 to 3.
unfoldable pub definition_of : ℕ → ℕ
definition_of k = choose (leb 11 k) (k - 7) (choose (leb 4 k) k 0)

-- "Order under a heading: 4 and 11 have 20, then 26 to 28 mixed; scalars 20; objects and interfaces 21, 20, 22; unions 20, 23; enums 20, 24; input
-- objects 20, 25; kinds 1 to 3 none." By what the heading defines or extends; kinds of one inner list share a place and may mix.
unfoldable pub part_order : ℕ → List (List ℕ)
part_order k =
    choose (eqb k 4) ((20 ∷ []) ∷ (26 ∷ 27 ∷ 28 ∷ []) ∷ []) (
    choose (eqb k 5) ((20 ∷ []) ∷ []) (
    choose (eqb k 6 || eqb k 7) ((21 ∷ []) ∷ (20 ∷ []) ∷ (22 ∷ []) ∷ []) (
    choose (eqb k 8) ((20 ∷ []) ∷ (23 ∷ []) ∷ []) (
    choose (eqb k 9) ((20 ∷ []) ∷ (24 ∷ []) ∷ []) (
    choose (eqb k 10) ((20 ∷ []) ∷ (25 ∷ []) ∷ []) [])))))

-- The place of a kind in such an order; the order's length where it has none.
unfoldable pub place_in : List (List ℕ) → ℕ → ℕ
place_in [] k = 0
place_in (ks ∷ order) k = let r = place_in order k in choose (any (eqb k) ks) 0 (suc r)

-- "Absent names are the pair 0, 0".
unfoldable pub is_unnamed : Card → Bool
is_unnamed c = eqb c.name_len 0 && eqb c.name_at 0

unfoldable pub item_end : Card → ℕ
item_end c = c.item_at + c.item_len

unfoldable pub name_end : Card → ℕ
name_end c = c.name_at + c.name_len

-- ---- The faults 2 to 5, 27 and 28 of a card.

-- What a card is judged by. Offsets count in `bytes`, of which the document's own text is the part of `size` bytes from `base` on (a lent document:
-- all of it, from 0). A part has the heading that it follows. The sibling is the previous heading of a heading, and of a part the previous
-- part under the same heading.
pub record Place : Type 0 where
  pub bytes : List ℕ
  pub base : ℕ
  pub size : ℕ
  pub heading : Option Card
  pub sibling : Option Card

-- 2: a kind that is neither a heading's nor a part's.
unfoldable pub unknown_kind : Place → Card → Bool
unknown_kind p c = not (is_heading c.kind || is_part c.kind)

-- 3: an item of length 0,
unfoldable pub empty_item : Place → Card → Bool
empty_item p c = eqb c.item_len 0

-- outside its document's text,
unfoldable pub item_outside_text : Place → Card → Bool
item_outside_text p c = ltb c.item_at p.base || ltb (p.base + p.size) (item_end c)

-- starting before the previous sibling's end,
unfoldable pub item_before_sibling_end : Place → Card → Bool
item_before_sibling_end p c = found p.sibling (λ s. ltb c.item_at (item_end s)) false

-- or outside its heading's item.
unfoldable pub item_outside_heading : Place → Card → Bool
item_outside_heading p c = found p.heading (λ h. ltb c.item_at h.item_at || ltb (item_end h) (item_end c)) false

-- 4: a name outside its item,
unfoldable pub name_outside_item : Place → Card → Bool
name_outside_item p c = not (is_unnamed c) && (ltb c.name_at c.item_at || ltb (item_end c) (name_end c))

-- or in 21 and 23 another span than the item. "Number 4 keeps the other two causes, and for an absent name neither holds." (2.1)
unfoldable pub name_not_item : Place → Card → Bool
name_not_item p c =
    not (is_unnamed c) && ((eqb c.kind 21 || eqb c.kind 23) && not (eqb c.name_at c.item_at && eqb c.name_len c.item_len))

-- 27: "A name wrongly present or absent" (2.1): present in 4 or 11, or absent in another kind but 1, where it is optional.
unfoldable pub name_amiss : Place → Card → Bool
name_amiss p c = choose (eqb c.kind 4 || eqb c.kind 11) (not (is_unnamed c)) (not (eqb c.kind 1) && is_unnamed c)

-- 28: "bytes that are no Name" (2.1).
unfoldable pub name_no_name : Place → Card → Bool
name_no_name p c = not (is_unnamed c) && not (is_name (bytes_at p.bytes c.name_at c.name_len))

-- 5: a part without heading, of a kind that its heading lacks, or placed before its sibling's kind in the heading's order.
unfoldable pub misplaced_under : Place → Card → Card → Bool
misplaced_under p c h =
    let order = part_order (definition_of h.kind) in
    not (ltb (place_in order c.kind) (length order)) || found p.sibling (λ s. ltb (place_in order c.kind) (place_in order s.kind)) false

unfoldable pub misplaced : Place → Card → Bool
misplaced p c = is_part c.kind && found p.heading (misplaced_under p c) true

-- The faults in the order in which they are asked: 27 and 28 are "both placed straight after 4 for the same card" (2.1).
pub record Fault : Type 0 where
  pub number : ℕ
  pub holds : Place → Card → Bool

unfoldable pub fault : ℕ → (Place → Card → Bool) → Fault
fault n holds = record { number = n; holds = holds }

unfoldable pub faults : List Fault
faults =
    fault 2 unknown_kind ∷
    fault 3 empty_item ∷
    fault 3 item_outside_text ∷
    fault 3 item_before_sibling_end ∷
    fault 3 item_outside_heading ∷
    fault 4 name_outside_item ∷
    fault 4 name_not_item ∷
    fault 27 name_amiss ∷
    fault 28 name_no_name ∷
    fault 5 misplaced ∷
    []

-- The number of the first fault that holds of a card, 0 where none does.
unfoldable pub fault_among : Place → Card → List Fault → ℕ
fault_among p c [] = 0
fault_among p c (f ∷ fs) = let r = fault_among p c fs in choose (f.holds p c) f.number r

-- ---- The first faulty card.

-- Where the card c stands, after the heading h and the part s under it.
unfoldable pub place_after : List ℕ → ℕ → ℕ → Option Card → Option Card → Card → Place
place_after bytes base size h s c =
    choose (is_part c.kind)
    (record { bytes = bytes; base = base; size = size; heading = h; sibling = s })
    (record { bytes = bytes; base = base; size = size; heading = none; sibling = h })

-- The first faulty card among cards numbered from i on, with the first fault that holds; h is the heading before them, s the part before them under h.
unfoldable pub fault_from : List ℕ → ℕ → ℕ → ℕ → Option Card → Option Card → List Card → Option Answer
fault_from bytes base size i h s [] = none
fault_from bytes base size i h s (c ∷ cs) =
    let n = fault_among (place_after bytes base size h s c) c faults in
    let under_heading = fault_from bytes base size (i + 1) h (some c) cs in
    let new_heading = fault_from bytes base size (i + 1) (some c) none cs in
    let rest = choose (is_part c.kind) under_heading new_heading in
    choose (eqb n 0) rest (some (answer n i))

-- The first faulty card of a document whose text is the part of `size` bytes from `base` on.
unfoldable pub card_fault : List ℕ → ℕ → ℕ → List Card → Option Answer
card_fault bytes base size cs = fault_from bytes base size 0 none none cs

-- 1: words that are not a whole number of cards.
unfoldable pub broken_cards : List ℕ → Bool
broken_cards ws = not (eqb (length ws % card_words) 0)

-- The refusals 1 to 5 of a lent document.
unfoldable pub document_fault : List ℕ → List ℕ → Option Answer
document_fault text ws =
    let rest = card_fault text 0 (length text) (cards_of ws) in
    choose (broken_cards ws) (some (answer 1 0)) rest
