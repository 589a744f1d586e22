use mathlib.Core.Path.{sym, ◌∙◌}
use native.Mathlib.Omega.{arith}
use mathlib.Core.Path.{refl}
use Rattle.parser_values.proofs.Readers.{lies}
use Rattle.parser.proofs.ByKind.{more_reads, more_lacks}
use Rattle.parser.proofs.bodies.more.Goals as goal

pub returns-then-begins_more : goal.returns-then-begins_more
returns-then-begins_more c =
    let e = c.body in (
      λ h. more_reads c.args.c.text.now h c.args.kind c.requires.1 c.requires.2 (sym c.begins_more.ensures ∙ c.if-begins_more.true) (e.ensures.0 h),
      e.ensures.1,
    )

pub returns : goal.returns
returns c = (
  λ h. more_lacks c.args.c.text.now h c.args.kind c.requires.1 c.requires.2 c.args.cards.now (sym c.begins_more.ensures ∙ c.if-begins_more.false),
  (let p = lies c.args.c refl in omega (arith, p.1, p.2)),
)
