-- What drawing reads of the documents: headings with their parts, and which heading stands for a name.
use Rattle.std.specs.Prelude.{List, [], ◌∷◌, ◌++◌, Bool, true, false, ◌&&◌, ◌||◌, not, ℕ, ◌+◌, eqb, leb, length}
use Rattle.std.proofs.Math.Option.{Option, none, some}
use Rattle.definition.specs.Lists.{choose, found, filter, find, flat_map, firsts}
use Rattle.definition.specs.Names.{same_name, bytes_at}
use Rattle.definition.specs.Answers.{absent}
use Rattle.definition.specs.Cards.{Card, is_part, is_root, is_type}

-- A document: its own text, its cards with offsets in that text, and whether the ignore switch was on when it was filed.
pub record Document : Type 0 where
  pub text : List ℕ
  pub cards : List Card
  pub ignored : Bool

-- A card by its number in the whole collection, with its kind and its name's bytes. A heading's parts are such.
pub record NamedCard : Type 0 where
  pub number : ℕ
  pub kind : ℕ
  pub name : List ℕ

-- A heading with its parts; whether it is built-in, and whether the ignore switch was on when its document was filed.
pub record Heading : Type 0 where
  pub number : ℕ
  pub kind : ℕ
  pub name : List ℕ
  pub built_in : Bool
  pub ignored : Bool
  pub parts : List NamedCard

unfoldable pub name_of : List ℕ → Card → List ℕ
name_of text c = bytes_at text c.name_at c.name_len

unfoldable pub named_card : List ℕ → ℕ → Card → NamedCard
named_card text n c = record { number = n; kind = c.kind; name = name_of text c }

unfoldable pub heading_from : List ℕ → Bool → Bool → ℕ → Card → List NamedCard → Heading
heading_from text b i n c ps = record { number = n; kind = c.kind; name = name_of text c; built_in = b; ignored = i; parts = ps }

-- The parts before the first heading, and the headings with their parts, of a document's cards, which are numbered from n on.
unfoldable pub group : List ℕ → Bool → Bool → ℕ → List Card → List NamedCard × List Heading
group text b i n [] = ([], [])
group text b i n (c ∷ cs) =
    let r = group text b i (n + 1) cs in
    let under : List NamedCard × List Heading = (named_card text n c ∷ r.0, r.1) in
    let heads : List NamedCard × List Heading = ([], heading_from text b i n c r.0 ∷ r.1) in
    choose (is_part c.kind) under heads

unfoldable pub headings_from : Bool → ℕ → List Document → List Heading
headings_from b n [] = []
headings_from b n (d ∷ ds) = (group d.text b d.ignored n d.cards).1 ++ headings_from false (n + length d.cards) ds

-- The headings of all documents: "cards numbered on through them"; "Built-in means: from document 0".
unfoldable pub headings : List Document → List Heading
headings ds = headings_from true 0 ds

-- ---- Which heading is meant.

unfoldable pub is_kind : ℕ → Heading → Bool
is_kind k h = eqb h.kind k

unfoldable pub is_type_definition : Heading → Bool
is_type_definition h = is_type h.kind

unfoldable pub is_type_extension : Heading → Bool
is_type_extension h = leb 12 h.kind && leb h.kind 17

unfoldable pub is_named : List ℕ → Heading → Bool
is_named n h = same_name n h.name

unfoldable pub same_named : Heading → Heading → Bool
same_named g h = is_named g.name h

unfoldable pub defines_type : List ℕ → Heading → Bool
defines_type n h = is_type_definition h && is_named n h

unfoldable pub extends_type : List ℕ → Heading → Bool
extends_type n h = is_type_extension h && is_named n h

unfoldable pub is_of : ℕ → List ℕ → Heading → Bool
is_of k n h = is_kind k h && is_named n h

-- The types that definitions bring, "in first-definition order". "A second type or schema definition adds nothing." (R5)
unfoldable pub defined_types : List Heading → List Heading
defined_types hs = firsts same_named [] (filter is_type_definition hs)

-- The definition that stands for a type's name.
unfoldable pub definition : List ℕ → List Heading → Option Heading
definition n hs = find (defines_type n) hs

-- The extensions of kind k of a name, in filing order.
unfoldable pub extensions_of : ℕ → List ℕ → List Heading → List Heading
extensions_of k n hs = filter (is_of k n) hs

-- The type extensions whose name no definition has.
unfoldable pub is_missing : Option Heading → Bool
is_missing o = found o (λ d. false) true

unfoldable pub is_orphan : List Heading → Heading → Bool
is_orphan hs h = is_type_extension h && is_missing (definition h.name hs)

unfoldable pub orphans : List Heading → List Heading
orphans hs = filter (is_orphan hs) hs

-- Directive definitions. "A built-in directive is replaced without error, keeping its place": among those of one name a built-in one gives way to the
-- next, and any other stays. (R8)
unfoldable pub directives : List Heading → List Heading
directives hs = filter (is_kind 3) hs

unfoldable pub standing : Option Heading → List Heading → Option Heading
standing o [] = o
standing none (d ∷ ds) = standing (some d) ds
standing (some c) (d ∷ ds) = let r = standing (some d) ds in choose c.built_in r (some c)

unfoldable pub directive_named : List ℕ → List Heading → Option Heading
directive_named n hs = standing none (filter (is_named n) (directives hs))

-- The schema definition is the first one (R5), and its extensions stand in filing order.
unfoldable pub schema_definition : List Heading → Option Heading
schema_definition hs = find (is_kind 4) hs

unfoldable pub schema_extensions : List Heading → List Heading
schema_extensions hs = filter (is_kind 11) hs

unfoldable pub number_of : Option Heading → ℕ
number_of o = found o (λ h. h.number) absent

-- ---- Parts.

unfoldable pub parts : Heading → List NamedCard
parts h = h.parts

unfoldable pub parts_of : List Heading → List NamedCard
parts_of hs = flat_map parts hs

-- Two parts of which a list holds only the first: roots of one kind, and parts of one kind and name. "Directive uses all stay." (R1, R2)
unfoldable pub alike : NamedCard → NamedCard → Bool
alike p q = eqb p.kind q.kind && (is_root p.kind || (not (eqb p.kind 20) && same_name p.name q.name))
