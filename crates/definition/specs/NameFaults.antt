-- 2.1 tells the faults of a name finer and moves no border: as before it, so after it a card has a fault or has none. What passed 22 passes, and the
-- account that a store holds is the same.
use Rattle.std.specs.Prelude.{◌≡◌, List, [], ◌∷◌, Bool, ◌&&◌, ◌||◌, not, eqb}
use Rattle.definition.specs.Cards.{Card, Place, Fault, fault, unknown_kind, empty_item, item_outside_text, item_before_sibling_end, item_outside_heading}
use Rattle.definition.specs.Cards.{name_amiss, name_outside_item, name_no_name, misplaced, faults, fault_among}

-- 01's 4 asked of an absent name too whether it is the item, in 21 and 23.
unfoldable pub span_not_item : Place → Card → Bool
span_not_item p c = (eqb c.kind 21 || eqb c.kind 23) && not (eqb c.name_at c.item_at && eqb c.name_len c.item_len)

-- 01's own list, in which number 4 has all four causes: "name wrongly present or absent, outside its item, not a Name, or unequal to the item in 21 and
-- 23".
unfoldable pub faults_of01 : List Fault
faults_of01 =
    fault 2 unknown_kind ∷
    fault 3 empty_item ∷
    fault 3 item_outside_text ∷
    fault 3 item_before_sibling_end ∷
    fault 3 item_outside_heading ∷
    fault 4 name_amiss ∷
    fault 4 name_outside_item ∷
    fault 4 name_no_name ∷
    fault 4 span_not_item ∷
    fault 5 misplaced ∷
    []

-- A card has a fault exactly where it had one by 01's list.
abbrev pub FaultyAsBefore : Type 0
FaultyAsBefore = (p : Place) (c : Card) → eqb (fault_among p c faults) 0 ≡ eqb (fault_among p c faults_of01) 0
