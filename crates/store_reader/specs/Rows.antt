-- A row of the table of documents, of the code and of the definitions.
use Rattle.definition.specs.Store.{DocumentRow as DefinedRow}
use Rattle.store_reader.specs.declared.documents.DocumentRow.{DocumentRow}

abbrev pub row_of : DocumentRow → DefinedRow
row_of r = record { text_at = r.text_at; text_len = r.text_len; card_count = r.card_count; ignored = r.ignored }
