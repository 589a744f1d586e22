-- What a text is refused for: 01's number, the place, and the refusal that an entry answers.
use Rattle.std.specs.Prelude.{ℕ}
use Rattle.definition.specs.declared.refusal.Refused.{Refused}
use Rattle.definition.specs.declared.refusal.Refusal.TheVariants as R
use Rattle.parser_values.specs.declared.error.SyntaxError.{SyntaxError}
use Rattle.parser_values.specs.declared.error.SyntaxError.TheVariants.{NotInGrammar, NestedTooDeep}

abbrev pub number : SyntaxError → ℕ
number (NotInGrammar p) = 29
number (NestedTooDeep p) = 30

abbrev pub place : SyntaxError → ℕ
place (NotInGrammar p) = p
place (NestedTooDeep p) = p

abbrev pub refused_by : SyntaxError → Refused
refused_by (NotInGrammar p) = record { refusal = R.NotInGrammar; place = p }
refused_by (NestedTooDeep p) = record { refusal = R.NestedTooDeep; place = p }
