-- What a longer list of headings leaves as it was.
use mathlib.Core.Path.{◌≡◌, ◌∙◌, ap}
use mathlib.Core.List.{List, [], ◌∷◌, ◌++◌, append_assoc, append-nil}
use mathlib.Core.Option.{some}
use Prim.Native.Nat.{ℕ, ◌+◌}
use Rattle.definition.specs.Lists.{filter, firsts}
use Rattle.definition.specs.Headings.{Heading, is_type_definition, same_named, definition, defines_type, extensions_of, defined_types}
use Rattle.definition.specs.Catalogue.{Component, alike_components, of_extensions, kept, list_of_kind, type_components}
use Rattle.definition.specs.Errors.{reading_errors}
use Rattle.definition.proofs.Lists.{map_append, flat_map_append, filter_append, first_append_some, firsts_append}

-- Reading errors: those of a longer list begin with those of the shorter.
pub reading_append : (before hs more : List Heading) → reading_errors before (hs ++ more) ≡ reading_errors before hs ++ reading_errors (before ++ hs) more
unfolding reading_errors
reading_append before [] more = simp append-nil
reading_append before (h ∷ hs) more = simp (reading_append (before ++ (h ∷ [])) hs more, append_assoc)

pub reading_grows : (hs more : List Heading) → reading_errors [] (hs ++ more) ≡ reading_errors [] hs ++ reading_errors hs more
reading_grows hs more = reading_append [] hs more

-- The types that definitions bring: those of a longer list begin with those of the shorter.
pub types_grow : (hs more : List Heading) → defined_types (hs ++ more) ≡ defined_types hs ++ firsts same_named (defined_types hs) (filter is_type_definition more)
unfolding defined_types
types_grow hs more = simp (filter_append, firsts_append)

pub definition_stays : (n : List ℕ) (hs more : List Heading) (d : Heading) → definition n hs ≡ some d → definition n (hs ++ more) ≡ some d
unfolding definition
definition_stays n hs more d h = first_append_some (defines_type n) hs more d h

-- What a type is made of only grows, and so does each of its lists.
pub components_grow : (hs more : List Heading) (d : Heading) →
    type_components (hs ++ more) d ≡ type_components hs d ++ of_extensions (extensions_of (d.kind + 7) d.name more)
unfolding type_components of_extensions extensions_of
components_grow hs more d = simp (filter_append, flat_map_append, append_assoc)

pub listed_append : (cs ds : List Component) (k : ℕ) → list_of_kind (cs ++ ds) k ≡ list_of_kind cs k ++ list_of_kind ds k
unfolding list_of_kind
listed_append cs ds k = simp (filter_append, map_append)

-- What added headings bring to it.
unfoldable pub added : List Heading → List Heading → Heading → List Component
added hs more d = firsts alike_components (kept (type_components hs d)) (of_extensions (extensions_of (d.kind + 7) d.name more))

pub kept_grow : (hs more : List Heading) (d : Heading) → kept (type_components (hs ++ more) d) ≡ kept (type_components hs d) ++ added hs more d
unfolding kept added
kept_grow hs more d = ap (firsts alike_components []) (components_grow hs more d) ∙ firsts_append alike_components [] _ _

pub lists_grow : (hs more : List Heading) (d : Heading) (k : ℕ) →
    list_of_kind (kept (type_components (hs ++ more) d)) k ≡ list_of_kind (kept (type_components hs d)) k ++ list_of_kind (added hs more d) k
lists_grow hs more d k = rw (kept_grow hs more d) (listed_append (kept (type_components hs d)) (added hs more d) k)
