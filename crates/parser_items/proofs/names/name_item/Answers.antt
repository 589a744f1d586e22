use mathlib.Core.Path.{refl, sym}
use mathlib.Core.List.{[], ◌∷◌}
use Prim.Native.Nat.{ℕ}
use native.Mathlib.Omega.{arith}
use Rattle.definition.specs.Grammar.{mark, named, name, item_ends}
use Rattle.definition.specs.ItemCards.{begun, named_by}
use Rattle.parser_laws.proofs.Ahead.{token_of}
use Rattle.parser_lexer.specs.Sorts.{sort_number}
use Rattle.parser_lexer.specs.declared.cursor.Cursor.{Cursor}
use Rattle.parser_values.proofs.Readers.{handed, may, flat}
use Rattle.parser_items.specs.Names.{name_item}
use Rattle.parser_items.proofs.Beginning.{wanting}
use Rattle.parser_items.proofs.Items.{InItem, starts, called, past, fails, ends}
use Rattle.parser_items.proofs.names.name_item.Goals as goal

-- Before the name.
at_name : (kind : ℕ) (b : Cursor) →
    InItem b.last (name_item kind) b.text.now b (name ∷ mark item_ends ∷ []) b (named_by (token_of (sort_number b.sort) b.begins b.ends) (begun kind b.begins))
unfolding wanting
at_name kind b =
    called b.text.now (name_item kind) (name ∷ mark item_ends ∷ []) refl (starts b.text.now kind (mark named ∷ name ∷ mark item_ends ∷ []) refl refl)

pub returns-in_err-k : goal.returns-in_err-k
returns-in_err-k c =
    let a = c.args in
    rw (handed _ _ c.from_residual.ensures)
    (fails a.c.text.now a.cards.now (name_item a.kind) (name ∷ []) (mark item_ends ∷ []) (at_name a.kind a.c)
    (may (flat 0 (omega arith) c.in_err-k.ensures)))

pub end_item-requires : goal.end_item-requires
end_item-requires c = let m = c.in_ok-k.ensures.1 in (rw m.0 c.requires, sym m.0, sym m.0, m.1)

pub returns : goal.returns
returns c =
    let a = c.args in
    let i = past a.c.text.now (name_item a.kind) (name ∷ []) (mark item_ends ∷ []) (at_name a.kind a.c) (flat 0 (omega arith) c.in_ok-k.ensures) in
    ends a.c.text.now (name_item a.kind) a.kind a.c i (omega arith) c.end_item.ensures
