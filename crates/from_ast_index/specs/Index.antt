-- The middle layer between the definitions and the code, first part: the arrays. The definitions speak of headings with their names and parts; the
-- code walks arrays that hold numbers of stored cards, or one word for each stored card. This file says of each array which headings of the store it
-- stands for. Crate `from_ast_indexing` fills the arrays so, and all that build reads is read from them. (Second part: component/specs/RowsByCards.)
use Rattle.std.specs.Prelude.{◌≡◌, List, [], map, Bool, true, false, ◌&&◌, ◌||◌, ℕ, ◌-◌, ◌≤◌, ◌<◌, leb, ltb, length, take, drop, get_or}
use Rattle.std.proofs.Math.Option.{some}
use Rattle.std.proofs.Math.ListN.{get_elem?}
use Rattle.definition.specs.Lists.{choose, filter, firsts}
use Rattle.definition.specs.Names.{same_name}
use Rattle.definition.specs.Headings.{NamedCard, Heading, is_type_definition, is_type_extension, same_named, defined_types, orphans, definition, number_of}
use Rattle.definition.specs.Refusals.{card_capacity}
use Rattle.definition.specs.Store.{cards_used_of, words_capacity}
use Rattle.name.specs.Hashes.{hash_of}
use Rattle.store_reader.specs.Stored.{stored_parts, stored_headings, card_name}

-- ---- Hashes.

unfoldable pub part_hash : NamedCard → ℕ
part_hash p = hash_of p.name

-- ---- Cards by their numbers.

-- Whether two stored cards have one name.
unfoldable pub same_cards : List ℕ → List ℕ → ℕ → ℕ → Bool
same_cards text words a b = same_name (card_name text words a) (card_name text words b)

-- Whether two numbers are those of stored cards that have one name.
unfoldable pub same_stored : List ℕ → List ℕ → ℕ → ℕ → Bool
same_stored text words a b =
    let same = same_cards text words a b in
    choose (ltb a (cards_used_of words)) (choose (ltb b (cards_used_of words)) same false) false

-- The hash of a stored card's name.
unfoldable pub card_hash : List ℕ → List ℕ → ℕ → ℕ
card_hash text words c = hash_of (card_name text words c)

unfoldable pub heading_number : Heading → ℕ
heading_number h = h.number

-- The kinds of type extensions.
unfoldable pub is_type_extension_kind : ℕ → Bool
is_type_extension_kind k = leb 12 k && leb k 17

-- The headings that define or extend a type.
unfoldable pub is_typed : Heading → Bool
is_typed h = is_type_definition h || is_type_extension h

-- ---- What the arrays hold.

-- For each card the hash of its name.
pub record Hashed (text words hashes : List ℕ) : Type 0 where
  pub hashes_are : take (cards_used_of words) hashes ≡ map part_hash (stored_parts text words)
  pub hashes_length : cards_used_of words ≤ length hashes
  pub cards_most : cards_used_of words ≤ card_capacity
  pub words_length : words_capacity ≤ length words

-- Cards in rising order, whose hashes are at hand.
pub record Cards (text words hashes cards : List ℕ) : Type 0 where
  pub hashed : Hashed text words hashes
  pub stored : (j : ℕ) → j < length cards → get_or cards j 0 < cards_used_of words
  pub rising : (i j : ℕ) → i < j → j < length cards → get_or cards i 0 < get_or cards j 0
  pub few : length cards ≤ cards_used_of words

-- Each array has just what is used of it.
pub record Listed (text words headings owners types orphan_cards extensions : List ℕ) : Type 0 where
  -- The headings' cards in order.
  pub headings_are : headings ≡ map heading_number (stored_headings text words)
  -- The first definition of each type, the first orphan of each name, and all type extensions.
  pub types_are : types ≡ map heading_number (defined_types (stored_headings text words))
  pub orphans_are : orphan_cards ≡ map heading_number (firsts same_named [] (orphans (stored_headings text words)))
  pub extensions_are : extensions ≡ map heading_number (filter is_type_extension (stored_headings text words))
  -- For each heading that defines or extends a type, the card of the first definition of its name, or `-`.
  pub owners_are :
      (k : ℕ) (h : Heading) → get_elem? (stored_headings text words) k ≡ some h → is_typed h ≡ true →
      get_or owners h.number 0 ≡ number_of (definition h.name (stored_headings text words))
  -- Lengths and bounds.
  pub owners_length : cards_used_of words ≤ length owners
  pub headings_most : length headings ≤ cards_used_of words
  pub types_most : length types ≤ length headings
  pub orphans_most : length orphan_cards ≤ length extensions
  pub extensions_most : length extensions ≤ length headings
  pub headings_stored : (k : ℕ) → k < length headings → get_or headings k 0 < cards_used_of words
  pub types_stored : (k : ℕ) → k < length types → get_or types k 0 < cards_used_of words
  pub orphans_stored : (k : ℕ) → k < length orphan_cards → get_or orphan_cards k 0 < cards_used_of words
  pub extensions_stored : (k : ℕ) → k < length extensions → get_or extensions k 0 < cards_used_of words

-- ---- Where the extensions of a type stand among all extensions.

-- The owner of the extension i.
abbrev pub owner_at : List ℕ → List ℕ → ℕ → ℕ
owner_at owners extensions i = get_or owners (get_or extensions i 0) 0

-- The extensions from k on stand at or after the place that `starts` has for their owner, the first k ones before the place that `ends` has.
pub record StartsAre (owners extensions starts : List ℕ) (k : ℕ) : Type 0 where
  pub at_or_after :
      (i : ℕ) → k ≤ i → i < length extensions → owner_at owners extensions i < length starts →
      get_or starts (owner_at owners extensions i) 0 ≤ i

pub record EndsAre (owners extensions ends : List ℕ) (k : ℕ) : Type 0 where
  pub before_end : (i : ℕ) → i < k → owner_at owners extensions i < length ends → i < get_or ends (owner_at owners extensions i) 0

-- Of an owner without extensions nothing is said.
pub record Spanned (words owners extensions starts ends : List ℕ) : Type 0 where
  pub starts_are : StartsAre owners extensions starts 0
  pub ends_are : EndsAre owners extensions ends (length extensions)
  pub starts_length : cards_used_of words ≤ length starts
  pub ends_length : cards_used_of words ≤ length ends

-- The part of a list from one place to another, as far as the list reaches.
unfoldable pub part : ℕ → ℕ → List ℕ → List ℕ
part start end xs = take (end - start) (drop start xs)

-- The part of all extensions in which those of a type stand.
unfoldable pub own_extensions : List ℕ → List ℕ → List ℕ → ℕ → List ℕ
own_extensions extensions starts ends c = part (get_or starts c 0) (get_or ends c 0) extensions
