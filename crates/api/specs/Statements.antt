-- What an entry promises of a call is what `step_store` makes of it: the reply, and the store that is left. Demand 3 is stated over `step_store`, so it is
-- a claim about what the entries answer and leave; specs/Entries.antt says it of them. And the numbers in which an enum is promised leave one answer.
use Rattle.std.specs.Prelude.{◌≡◌, refl, List, ℕ, eqb}
use Rattle.std.proofs.Common.{sym, ◌∙◌, ne_eqb}
use Rattle.std.proofs.Math.Path.{ap}
use Rattle.definition.specs.declared.Answer.{Answer}
use Rattle.definition.specs.declared.Drawing.{Drawing}
use Rattle.definition.specs.declared.OperationType.{OperationType}
use Rattle.definition.specs.declared.FieldFound.{FieldFound}
use Rattle.definition.specs.declared.FieldFound.TheVariants.{Explicit, Typename, Schema, «Type» as MetaType}
use Rattle.definition.specs.Answers.{FieldLookup, Found, NoSuchType, NoSuchField, Refused, SubtypeLookup, Subtype, NotSubtype}
use Rattle.definition.specs.Lists.{choose}
use Rattle.definition.specs.Answers.{meta_number, explicit_card, field_refusal, field_number, field_meta, field_card, subtype_refusal, subtype_number}
use Rattle.definition.specs.Outcomes.{BuildOutcome, RootName, ListOutcome}
use Rattle.definition.specs.Calls.{Call, opening, filing, adopting, ignoring, building, checking, root_asked, field_asked, subtype_asked, origins_asked}
use Rattle.definition.specs.Calls.{extensions_asked, implementers_asked, parsing}
use Rattle.definition.specs.Calls.{Reply, answered, built, named, fielded, subtyped, listed, Store, store, leaves, step_store}
use Rattle.api.specs.Promised.{Opens, Files, Adopts, Ignores, Builds, ChecksRows, NamesRoot, SameField, SameSubtype, FindsField, TellsSubtype}
use Rattle.api.specs.Promised.{ListsOrigins, ListsExtensions, MapsImplementers, Parses}

-- ---- An answer's numbers leave one answer.

-- The answer of which these are the numbers.
abbrev found_of : ℕ → ℕ → FieldFound
found_of meta card = choose (eqb meta 0) (Explicit card) (choose (eqb meta 1) Typename (choose (eqb meta 2) Schema MetaType))

abbrev field_of : ℕ → ℕ → ℕ → ℕ → FieldLookup
field_of refusal number meta card =
    choose (eqb number 0) (Refused refusal)
    (choose (eqb number 1) (Found (found_of meta card)) (choose (eqb number 2) NoSuchType (NoSuchField card)))

abbrev subtype_of : ℕ → ℕ → SubtypeLookup
subtype_of refusal number = choose (eqb refusal 0) (choose (eqb number 1) Subtype NotSubtype) (SubtypeLookup.Refused refusal)

found_told : (f : FieldFound) → found_of (meta_number f) (explicit_card f) ≡ f
found_told (Explicit c) = refl
found_told Typename = refl
found_told Schema = refl
found_told MetaType = refl

field_told : (r : FieldLookup) → field_of (field_refusal r) (field_number r) (field_meta r) (field_card r) ≡ r
field_told (Found f) = ap Found (found_told f)
field_told NoSuchType = refl
field_told (NoSuchField c) = refl
field_told (Refused n) = refl

pub same_field : (r outcome : FieldLookup) → SameField r outcome → r ≡ outcome
same_field r outcome e = sym (field_told r) ∙ (λ i. field_of (e.0 i) (e.1 i) (e.2 i) (e.3 i)) ∙ field_told outcome

-- Of `is_subtype` a no and a refusal with the number 0 would have the same numbers; 01 has no refusal 0.
abbrev Numbered : SubtypeLookup → Type 0
Numbered r = r ≡ SubtypeLookup.Refused 0 → ⊥

subtype_told : (r : SubtypeLookup) → Numbered r → subtype_of (subtype_refusal r) (subtype_number r) ≡ r
subtype_told Subtype h = refl
subtype_told NotSubtype h = refl
subtype_told (SubtypeLookup.Refused n) h = rw (ne_eqb n 0 (λ e. h (ap SubtypeLookup.Refused e)))

pub same_subtype : (r outcome : SubtypeLookup) → Numbered r → Numbered outcome → SameSubtype r outcome → r ≡ outcome
same_subtype r outcome h k e = sym (subtype_told r h) ∙ (λ i. subtype_of (e.0 i) (e.1 i)) ∙ subtype_told outcome k

-- The call leaves this store and this reply.
abbrev Steps : List ℕ → List ℕ → Call → List ℕ → List ℕ → Reply → Type 0
Steps text words call text' words' reply = ◌≡◌ {A = Store × Reply} (store text' words', reply) (step_store (store text words) call)

module _ (text words : List ℕ) where
  -- ---- The calls that write the store.

  module _ (r : Answer) (text' words' : List ℕ) where
    pub open_steps : (lent cards : List ℕ) → Opens text words lent cards r text' words' → Steps text words (opening lent cards) text' words' (answered r)
    unfolding step_store store leaves
    open_steps lent cards e = ap leaves e

    pub add_ast_steps : (lent cards : List ℕ) → Files text words lent cards r text' words' → Steps text words (filing lent cards) text' words' (answered r)
    unfolding step_store store leaves
    add_ast_steps lent cards e = ap leaves e

    pub adopt_orphan_extensions_steps : Adopts text words r text' words' → Steps text words adopting text' words' (answered r)
    unfolding step_store store leaves
    adopt_orphan_extensions_steps e = ap leaves e

    pub ignore_builtin_redefinitions_steps : Ignores text words r text' words' → Steps text words ignoring text' words' (answered r)
    unfolding step_store store leaves
    ignore_builtin_redefinitions_steps e = ap leaves e

  -- ---- Drawing.

  pub build_steps : (rows errors : List ℕ) (r : Drawing) (rows' errors' : List ℕ) → Builds text words rows errors r rows' errors' →
      Steps text words (building rows errors) text words (built (record { drawing = r; rows = rows'; errors = errors' }))
  unfolding step_store store
  build_steps rows errors r rows' errors' e = ap (λ (o : BuildOutcome). (store text words, built o)) e

  -- ---- Lookups.

  module _ (rows : List ℕ) where
    pub check_rows_steps : (r : Answer) → ChecksRows text words rows r → Steps text words (checking rows) text words (answered r)
    unfolding step_store store
    check_rows_steps r e = ap (λ (a : Answer). (store text words, answered a)) e

    pub root_operation_steps : (op : OperationType) (name : RootName) → NamesRoot text words rows op name →
        Steps text words (root_asked rows op) text words (named name)
    unfolding step_store store
    root_operation_steps op name e = ap (λ (n : RootName). (store text words, named n)) e

    pub type_field_steps : (type field : List ℕ) (r : FieldLookup) → FindsField text words rows type field r →
        Steps text words (field_asked rows type field) text words (fielded r)
    unfolding step_store store
    type_field_steps type field r e = ap (λ (f : FieldLookup). (store text words, fielded f)) e.0

    pub is_subtype_steps : (general other : List ℕ) (r : SubtypeLookup) → TellsSubtype text words rows general other r →
        Steps text words (subtype_asked rows general other) text words (subtyped r)
    unfolding step_store store
    is_subtype_steps general other r e = ap (λ (s : SubtypeLookup). (store text words, subtyped s)) e.0

    -- ---- Lookups that fill a slice.

    module _ (list : List ℕ) (r : Answer) (list' : List ℕ) where
      pub iter_origins_steps : ListsOrigins text words rows list r list' →
          Steps text words (origins_asked rows list) text words (listed (record { answer = r; list = list' }))
      unfolding step_store store
      iter_origins_steps e = ap (λ (o : ListOutcome). (store text words, listed o)) e

      pub extensions_steps : ListsExtensions text words rows list r list' →
          Steps text words (extensions_asked rows list) text words (listed (record { answer = r; list = list' }))
      unfolding step_store store
      extensions_steps e = ap (λ (o : ListOutcome). (store text words, listed o)) e

      pub implementers_map_steps : MapsImplementers text words rows list r list' →
          Steps text words (implementers_asked rows list) text words (listed (record { answer = r; list = list' }))
      unfolding step_store store
      implementers_map_steps e = ap (λ (o : ListOutcome). (store text words, listed o)) e

  -- ---- Reading a text, whatever the store.

  pub parse_steps : (source cards : List ℕ) (r : Answer) (cards' : List ℕ) → Parses source cards r cards' →
      Steps text words (parsing source cards) text words (listed (record { answer = r; list = cards' }))
  unfolding step_store store
  parse_steps source cards r cards' e = ap (λ (o : ListOutcome). (store text words, listed o)) e
