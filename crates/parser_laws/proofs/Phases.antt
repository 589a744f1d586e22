-- What the marks of a text have done so far, told by a few states, and that every alternative of the grammar leads from state to state as a table says.
use mathlib.Core.Path.{◌≡◌, refl, sym, ap, ◌∙◌}
use mathlib.Core.List.{List, [], ◌∷◌}
use mathlib.Core.Bool.{Bool, true, false, ◌&&◌, ◌||◌, not}
use mathlib.Core.Option.{Option, none, some}
use Prim.Native.Nat.{ℕ}
use borrow.Author.Tests.{eqb-true}
use lib.Dec.{eqb, leb, ltb}
use lib.ListN.{length}
use Rattle.definition.specs.Lists.{choose, found, any, all}
use Rattle.definition.specs.Cards.{is_heading, is_part, definition_of, part_order, place_in}
use Rattle.definition.specs.Grammar.{Mark, heading, kind, heading_ends, item, item_ends, named, deeper, shallower, Symbol, one, part, mark, Part, rule}
use Rattle.definition.specs.Grammar.{Document, Definition*, Definition, Description?, Described, Extended, SchemaMore, ObjectMore, UnionMore, EnumMore}
use Rattle.definition.specs.Grammar.{InputMore, Roots, Roots?, Root*, Root, Implements, Implements?, Amp?, Interface, AndInterface*, Fields, Fields?}
use Rattle.definition.specs.Grammar.{Field*, Field, Members, Members?, Bar?, Member, OrMember*, EnumValues, EnumValues?, EnumValue*, EnumValue, InputFields}
use Rattle.definition.specs.Grammar.{InputFields?, InputField*, InputField, ArgumentDefinitions?, ArgumentDefinition*, ArgumentDefinition, Repeatable?}
use Rattle.definition.specs.Grammar.{Location, OrLocation*, TypeReference, Bang?, Default?, DirectiveUse*, DirectiveUse, Directive*, Directive, Arguments?}
use Rattle.definition.specs.Grammar.{Argument*, Argument, Value, Value*, ObjectValue, ObjectField*, ObjectField}
use Rattle.parser_laws.proofs.Tests.{both}

-- d is what a heading defines or extends, b a place in the order of its parts, p the kind of an item.
pub data State : Type 0 where
  -- between definitions
  outside : State
  -- a heading has begun; and a token of it was read
  begun read_on : State
  -- its kind is known, and its name is to come; the next token is its name
  kinded calling : ℕ → State
  -- under the heading, whose parts so far have places up to b
  under : ℕ → ℕ → State
  -- under any heading, with all its parts
  full : State
  -- in an item, whose place is b: before its name, with the name as the next token, after it
  unnamed naming named_it : ℕ → ℕ → ℕ → State

-- ---- A state told by four numbers, by which states are compared.

unfoldable pub tag : State → ℕ
tag outside = 0
tag begun = 1
tag read_on = 2
tag (kinded d) = 3
tag (calling d) = 4
tag (under d b) = 5
tag full = 6
tag (unnamed d b p) = 7
tag (naming d b p) = 8
tag (named_it d b p) = 9

unfoldable pub defines : State → ℕ
defines outside = 0
defines begun = 0
defines read_on = 0
defines (kinded d) = d
defines (calling d) = d
defines (under d b) = d
defines full = 0
defines (unnamed d b p) = d
defines (naming d b p) = d
defines (named_it d b p) = d

unfoldable pub bound : State → ℕ
bound outside = 0
bound begun = 0
bound read_on = 0
bound (kinded d) = 0
bound (calling d) = 0
bound (under d b) = b
bound full = 0
bound (unnamed d b p) = b
bound (naming d b p) = b
bound (named_it d b p) = b

unfoldable pub item_kind : State → ℕ
item_kind outside = 0
item_kind begun = 0
item_kind read_on = 0
item_kind (kinded d) = 0
item_kind (calling d) = 0
item_kind (under d b) = 0
item_kind full = 0
item_kind (unnamed d b p) = p
item_kind (naming d b p) = p
item_kind (named_it d b p) = p

unfoldable pub state_of : ℕ → ℕ → ℕ → ℕ → State
state_of n d b p =
    choose (eqb n 0) outside (choose (eqb n 1) begun (choose (eqb n 2) read_on (choose (eqb n 3) (kinded d) (choose (eqb n 4) (calling d) (
    choose (eqb n 5) (under d b) (choose (eqb n 6) full (choose (eqb n 7) (unnamed d b p) (choose (eqb n 8) (naming d b p) (named_it d b p)))))))))

told : (s : State) → state_of (tag s) (defines s) (bound s) (item_kind s) ≡ s
unfolding tag defines bound item_kind state_of
told outside = refl
told begun = refl
told read_on = refl
told (kinded d) = refl
told (calling d) = refl
told (under d b) = refl
told full = refl
told (unnamed d b p) = refl
told (naming d b p) = refl
told (named_it d b p) = refl

-- A state with a tag.
pub tagged : (n : ℕ) (s : State) → eqb (tag s) n ≡ true → s ≡ state_of n (defines s) (bound s) (item_kind s)
tagged n s e = sym (told s) ∙ ap (λ (m : ℕ). state_of m (defines s) (bound s) (item_kind s)) (eqb-true (tag s) n e)

unfoldable pub same : State → State → Bool
same s t = eqb (tag s) (tag t) && eqb (defines s) (defines t) && eqb (bound s) (bound t) && eqb (item_kind s) (item_kind t)

pub same_is : (s t : State) → same s t ≡ true → s ≡ t
unfolding same
same_is s t e =
    let a = both (eqb (tag s) (tag t) && eqb (defines s) (defines t) && eqb (bound s) (bound t)) (eqb (item_kind s) (item_kind t)) e in
    let b = both (eqb (tag s) (tag t) && eqb (defines s) (defines t)) (eqb (bound s) (bound t)) a.0 in
    let c = both (eqb (tag s) (tag t)) (eqb (defines s) (defines t)) b.0 in
    let i = eqb-true (tag s) (tag t) c.0 in
    let j = eqb-true (defines s) (defines t) c.1 in
    let k = eqb-true (bound s) (bound t) b.1 in
    let l = eqb-true (item_kind s) (item_kind t) a.1 in
    sym (told s) ∙ (λ x. state_of (i x) (j x) (k x) (l x)) ∙ told t

-- ---- What a token does, and what a mark does. None where it may not stand.

-- The kinds of items that are their names, and the kinds of headings without a name.
unfoldable pub is_bare : ℕ → Bool
is_bare p = eqb p 21 || eqb p 23

unfoldable pub is_nameless : ℕ → Bool
is_nameless k = eqb k 4 || eqb k 11

unfoldable pub on_token : ℕ → State → Option State
on_token lo outside = none
on_token lo begun = some read_on
on_token lo read_on = some read_on
on_token lo (kinded d) = some (kinded d)
on_token lo (calling d) = choose (leb 17 lo) (some (under d 0)) none
on_token lo (under d b) = some (under d b)
on_token lo full = none
on_token lo (unnamed d b p) = choose (is_bare p) none (some (unnamed d b p))
on_token lo (naming d b p) = choose (leb 17 lo) (some (named_it d b p)) none
on_token lo (named_it d b p) = choose (is_bare p) none (some (named_it d b p))

-- The states that a token leaves as they are.
unfoldable pub is_tolerant : State → Bool
is_tolerant outside = false
is_tolerant begun = false
is_tolerant read_on = true
is_tolerant (kinded d) = true
is_tolerant (calling d) = false
is_tolerant (under d b) = true
is_tolerant full = false
is_tolerant (unnamed d b p) = not (is_bare p)
is_tolerant (naming d b p) = false
is_tolerant (named_it d b p) = not (is_bare p)

unfoldable pub place_under : ℕ → ℕ → ℕ
place_under d p = place_in (part_order d) p

-- An item of kind p may begin under a heading that defines d, after parts with places up to b.
unfoldable pub may_begin : ℕ → ℕ → ℕ → Bool
may_begin d b p = is_part p && (leb b (place_under d p) && ltb (place_under d p) (length (part_order d)))

unfoldable pub on_mark : Mark → State → Option State
on_mark heading s = choose (eqb (tag s) 0) (some begun) none
on_mark (kind k) s = choose (eqb (tag s) 2 && is_heading k) (some (choose (is_nameless k) (under (definition_of k) 0) (kinded (definition_of k)))) none
on_mark heading_ends s = choose (eqb (tag s) 6) (some outside) none
on_mark (item p) s = choose (eqb (tag s) 5 && may_begin (defines s) (bound s) p) (some (unnamed (defines s) (place_under (defines s) p) p)) none
on_mark item_ends s = choose (eqb (tag s) 9) (some (under (defines s) (bound s))) none
on_mark named s =
    choose (eqb (tag s) 3) (some (calling (defines s))) (choose (eqb (tag s) 7) (some (naming (defines s) (bound s) (item_kind s))) none)
on_mark deeper s = some s
on_mark shallower s = some s

-- ---- What a part of the grammar does.

-- Parts without a card's mark: they leave every tolerant state as it is.
unfoldable pub is_plain : Part → Bool
is_plain Document = false
is_plain Definition* = false
is_plain Definition = false
is_plain Description? = true
is_plain Described = false
is_plain Extended = false
is_plain SchemaMore = false
is_plain ObjectMore = false
is_plain UnionMore = false
is_plain EnumMore = false
is_plain InputMore = false
is_plain Roots = false
is_plain Roots? = false
is_plain Root* = false
is_plain Root = false
is_plain Implements = false
is_plain Implements? = false
is_plain Amp? = true
is_plain Interface = false
is_plain AndInterface* = false
is_plain Fields = false
is_plain Fields? = false
is_plain Field* = false
is_plain Field = false
is_plain Members = false
is_plain Members? = false
is_plain Bar? = true
is_plain Member = false
is_plain OrMember* = false
is_plain EnumValues = false
is_plain EnumValues? = false
is_plain EnumValue* = false
is_plain EnumValue = false
is_plain InputFields = false
is_plain InputFields? = false
is_plain InputField* = false
is_plain InputField = false
is_plain ArgumentDefinitions? = true
is_plain ArgumentDefinition* = true
is_plain ArgumentDefinition = true
is_plain Repeatable? = true
is_plain Location = true
is_plain OrLocation* = true
is_plain TypeReference = true
is_plain Bang? = true
is_plain Default? = true
is_plain DirectiveUse* = false
is_plain DirectiveUse = false
is_plain Directive* = true
is_plain Directive = true
is_plain Arguments? = true
is_plain Argument* = true
is_plain Argument = true
is_plain Value = true
is_plain Value* = true
is_plain ObjectValue = true
is_plain ObjectField* = true
is_plain ObjectField = true

abbrev pub rises : ℕ → ℕ → ℕ → State × State
rises d b c = (under d b, under d c)

-- The states before each part, and one after it that holds whatever alternative is taken.
unfoldable pub effects : Part → List (State × State)
effects Document = (outside, outside) ∷ []
effects Definition* = (outside, outside) ∷ []
effects Definition = (outside, outside) ∷ []
effects Description? = (begun, begun) ∷ []
effects Described = (begun, full) ∷ []
effects Extended = (read_on, full) ∷ []
effects SchemaMore = rises 4 0 1 ∷ []
effects ObjectMore = rises 6 0 2 ∷ rises 7 0 2 ∷ []
effects UnionMore = rises 8 0 1 ∷ []
effects EnumMore = rises 9 0 1 ∷ []
effects InputMore = rises 10 0 1 ∷ []
effects Roots = rises 4 0 1 ∷ []
effects Roots? = rises 4 0 1 ∷ []
effects Root* = rises 4 0 1 ∷ rises 4 1 1 ∷ []
effects Root = rises 4 0 1 ∷ rises 4 1 1 ∷ []
effects Implements = rises 6 0 0 ∷ rises 7 0 0 ∷ []
effects Implements? = rises 6 0 0 ∷ rises 7 0 0 ∷ []
effects Amp? = []
effects Interface = rises 6 0 0 ∷ rises 7 0 0 ∷ []
effects AndInterface* = rises 6 0 0 ∷ rises 7 0 0 ∷ []
effects Fields = rises 6 0 2 ∷ rises 6 1 2 ∷ rises 7 0 2 ∷ rises 7 1 2 ∷ []
effects Fields? = rises 6 0 2 ∷ rises 6 1 2 ∷ rises 7 0 2 ∷ rises 7 1 2 ∷ []
effects Field* = rises 6 0 2 ∷ rises 6 1 2 ∷ rises 6 2 2 ∷ rises 7 0 2 ∷ rises 7 1 2 ∷ rises 7 2 2 ∷ []
effects Field = rises 6 0 2 ∷ rises 6 1 2 ∷ rises 6 2 2 ∷ rises 7 0 2 ∷ rises 7 1 2 ∷ rises 7 2 2 ∷ []
effects Members = rises 8 0 1 ∷ []
effects Members? = rises 8 0 1 ∷ []
effects Bar? = []
effects Member = rises 8 0 1 ∷ rises 8 1 1 ∷ []
effects OrMember* = rises 8 0 1 ∷ rises 8 1 1 ∷ []
effects EnumValues = rises 9 0 1 ∷ []
effects EnumValues? = rises 9 0 1 ∷ []
effects EnumValue* = rises 9 0 1 ∷ rises 9 1 1 ∷ []
effects EnumValue = rises 9 0 1 ∷ rises 9 1 1 ∷ []
effects InputFields = rises 10 0 1 ∷ []
effects InputFields? = rises 10 0 1 ∷ []
effects InputField* = rises 10 0 1 ∷ rises 10 1 1 ∷ []
effects InputField = rises 10 0 1 ∷ rises 10 1 1 ∷ []
effects ArgumentDefinitions? = []
effects ArgumentDefinition* = []
effects ArgumentDefinition = []
effects Repeatable? = []
effects Location = []
effects OrLocation* = []
effects TypeReference = []
effects Bang? = []
effects Default? = []
effects DirectiveUse* = rises 4 0 0 ∷ rises 5 0 0 ∷ rises 6 0 1 ∷ rises 6 1 1 ∷ rises 7 0 1 ∷ rises 7 1 1 ∷ rises 8 0 0 ∷ rises 9 0 0 ∷ rises 10 0 0 ∷ []
effects DirectiveUse = rises 4 0 0 ∷ rises 5 0 0 ∷ rises 6 0 1 ∷ rises 6 1 1 ∷ rises 7 0 1 ∷ rises 7 1 1 ∷ rises 8 0 0 ∷ rises 9 0 0 ∷ rises 10 0 0 ∷ []
effects Directive* = []
effects Directive = []
effects Arguments? = []
effects Argument* = []
effects Argument = []
effects Value = []
effects Value* = []
effects ObjectValue = []
effects ObjectField* = []
effects ObjectField = []

unfoldable pub look_up : State → List (State × State) → Option State
look_up s [] = none
look_up s (e ∷ es) = let r = look_up s es in choose (same s e.0) (some e.1) r

unfoldable pub step : Symbol → State → Option State
step (one lo hi) s = on_token lo s
step (mark m) s = on_mark m s
step (part n) s = choose (is_plain n && is_tolerant s) (some s) (look_up s (effects n))

unfoldable pub goes : List Symbol → State → Option State
goes [] s = some s
goes (x ∷ r) s = found (step x s) (λ u. goes r u) none

-- Whatever the state s says, t says too.
unfoldable pub below : State → State → Bool
below s t =
    same s t ||
    ((eqb (tag s) 2 && eqb (tag t) 1) ||
    ((eqb (tag s) 5 && eqb (tag t) 6) ||
    ((eqb (tag s) 5 && eqb (tag t) 5) && (eqb (defines s) (defines t) && leb (bound s) (bound t)))))

unfoldable pub reaches : State → List Symbol → State → Bool
reaches s r t = found (goes r s) (λ u. below u t) false

unfoldable pub agrees : Part → Bool
agrees n = all (λ e. all (λ r. reaches e.0 r e.1) (rule n)) (effects n)

unfoldable pub is_plain_symbol : Symbol → Bool
is_plain_symbol (one lo hi) = true
is_plain_symbol (part n) = is_plain n
is_plain_symbol (mark heading) = false
is_plain_symbol (mark (kind k)) = false
is_plain_symbol (mark heading_ends) = false
is_plain_symbol (mark (item k)) = false
is_plain_symbol (mark item_ends) = false
is_plain_symbol (mark named) = false
is_plain_symbol (mark deeper) = true
is_plain_symbol (mark shallower) = true

unfoldable pub stays_plain : Part → Bool
stays_plain n = not (is_plain n) || all (all is_plain_symbol) (rule n)

pub all_agree : (n : Part) → agrees n ≡ true
unfolding agrees reaches goes step on_token on_mark may_begin place_under look_up effects below same tag defines bound item_kind is_plain is_tolerant is_bare is_nameless
    is_heading is_part definition_of part_order place_in any all rule
all_agree Document = refl
all_agree Definition* = refl
all_agree Definition = refl
all_agree Description? = refl
all_agree Described = refl
all_agree Extended = refl
all_agree SchemaMore = refl
all_agree ObjectMore = refl
all_agree UnionMore = refl
all_agree EnumMore = refl
all_agree InputMore = refl
all_agree Roots = refl
all_agree Roots? = refl
all_agree Root* = refl
all_agree Root = refl
all_agree Implements = refl
all_agree Implements? = refl
all_agree Amp? = refl
all_agree Interface = refl
all_agree AndInterface* = refl
all_agree Fields = refl
all_agree Fields? = refl
all_agree Field* = refl
all_agree Field = refl
all_agree Members = refl
all_agree Members? = refl
all_agree Bar? = refl
all_agree Member = refl
all_agree OrMember* = refl
all_agree EnumValues = refl
all_agree EnumValues? = refl
all_agree EnumValue* = refl
all_agree EnumValue = refl
all_agree InputFields = refl
all_agree InputFields? = refl
all_agree InputField* = refl
all_agree InputField = refl
all_agree ArgumentDefinitions? = refl
all_agree ArgumentDefinition* = refl
all_agree ArgumentDefinition = refl
all_agree Repeatable? = refl
all_agree Location = refl
all_agree OrLocation* = refl
all_agree TypeReference = refl
all_agree Bang? = refl
all_agree Default? = refl
all_agree DirectiveUse* = refl
all_agree DirectiveUse = refl
all_agree Directive* = refl
all_agree Directive = refl
all_agree Arguments? = refl
all_agree Argument* = refl
all_agree Argument = refl
all_agree Value = refl
all_agree Value* = refl
all_agree ObjectValue = refl
all_agree ObjectField* = refl
all_agree ObjectField = refl

pub all_plain : (n : Part) → stays_plain n ≡ true
unfolding stays_plain is_plain_symbol is_plain all rule
all_plain Document = refl
all_plain Definition* = refl
all_plain Definition = refl
all_plain Description? = refl
all_plain Described = refl
all_plain Extended = refl
all_plain SchemaMore = refl
all_plain ObjectMore = refl
all_plain UnionMore = refl
all_plain EnumMore = refl
all_plain InputMore = refl
all_plain Roots = refl
all_plain Roots? = refl
all_plain Root* = refl
all_plain Root = refl
all_plain Implements = refl
all_plain Implements? = refl
all_plain Amp? = refl
all_plain Interface = refl
all_plain AndInterface* = refl
all_plain Fields = refl
all_plain Fields? = refl
all_plain Field* = refl
all_plain Field = refl
all_plain Members = refl
all_plain Members? = refl
all_plain Bar? = refl
all_plain Member = refl
all_plain OrMember* = refl
all_plain EnumValues = refl
all_plain EnumValues? = refl
all_plain EnumValue* = refl
all_plain EnumValue = refl
all_plain InputFields = refl
all_plain InputFields? = refl
all_plain InputField* = refl
all_plain InputField = refl
all_plain ArgumentDefinitions? = refl
all_plain ArgumentDefinition* = refl
all_plain ArgumentDefinition = refl
all_plain Repeatable? = refl
all_plain Location = refl
all_plain OrLocation* = refl
all_plain TypeReference = refl
all_plain Bang? = refl
all_plain Default? = refl
all_plain DirectiveUse* = refl
all_plain DirectiveUse = refl
all_plain Directive* = refl
all_plain Directive = refl
all_plain Arguments? = refl
all_plain Argument* = refl
all_plain Argument = refl
all_plain Value = refl
all_plain Value* = refl
all_plain ObjectValue = refl
all_plain ObjectField* = refl
all_plain ObjectField = refl
