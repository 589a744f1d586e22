use mathlib.Core.Path.{refl}
use mathlib.Core.List.{[], ◌∷◌}
use Rattle.std.specs.Prelude.{Ok, Err}
use Rattle.definition.specs.Grammar.{part, colon, ArgumentDefinitions?, TypeReference, Directive*}
use Rattle.parser_lexer.specs.declared.cursor.Cursor.{Cursor}
use Rattle.parser_values.specs.Reads.{May, Must, Flat}
use Rattle.parser_values.proofs.Readers.{Mid, handed, may, may_in, at_start, on, ends, fails}
use Rattle.parser_items.specs.Definitions.{field_rest}
use Rattle.parser_items.proofs.Items.{taken}
use Rattle.parser_items.proofs.definitions.field_rest.Goals as goal

module _ {b : Cursor} where
  at-arguments : Mid field_rest b.text.now b 0 field_rest b
  at-arguments = at_start field_rest refl

  module _ {k : Cursor} (f : May (part ArgumentDefinitions? ∷ []) b.text.now b 0 (Ok k)) where
    at-colon : Mid field_rest b.text.now b 0 (colon ∷ part TypeReference ∷ part Directive* ∷ []) k
    at-colon = on _ at-arguments f

    module _ {j : Cursor} (g : Flat (colon ∷ []) k.text.now k (Ok j)) where
      at_type : Mid field_rest b.text.now b 0 (part TypeReference ∷ part Directive* ∷ []) j
      at_type = on _ at-colon (taken b.text.now (colon ∷ []) (Ok j) g)

      at-directives : {i : Cursor} → Must (part TypeReference ∷ []) j.text.now j 0 (Ok i) → Mid field_rest b.text.now b 0 (part Directive* ∷ []) i
      at-directives h = on _ at_type (may h)

pub returns-in_err-k : goal.returns-in_err-k
returns-in_err-k c = rw (handed _ _ c.from_residual.ensures) (fails _ at-arguments c.in_err-k.ensures)

pub returns-in_err-j : goal.returns-in_err-j
returns-in_err-j c =
    rw (handed _ _ c.from_residual-in_err-j.ensures)
    (fails _ (at-colon c.in_ok-k.ensures) (taken c.args.c.text.now (colon ∷ []) (Err _) c.in_err-j.ensures))

pub returns-in_err-i : goal.returns-in_err-i
returns-in_err-i c =
    rw (handed _ _ c.from_residual-in_err-i.ensures) (fails _ (at_type c.in_ok-k.ensures c.in_ok-j.ensures) (may (rw c.full.ensures at c.in_err-i.ensures)))

pub returns : goal.returns
returns c = let i = at-directives c.in_ok-k.ensures c.in_ok-j.ensures (rw c.full.ensures at c.in_ok-i.ensures) in ends i (may_in i.1 c.directives.ensures)
