use Rattle.parser_values.proofs.Readers.{may}
use Rattle.parser_items.proofs.definitions.rest.Goals as goal

pub returns-in-Field : goal.returns-in-Field
returns-in-Field c = rw c.in-Field.is c.field_rest.ensures

pub returns-in-EnumValue : goal.returns-in-EnumValue
returns-in-EnumValue c = rw c.in-EnumValue.is c.directives.ensures

pub returns-in-InputField : goal.returns-in-InputField
returns-in-InputField c = rw c.in-InputField.is (may c.input_value_type.ensures)
