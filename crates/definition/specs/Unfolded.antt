-- Unfolds every definition: a closed example says `unfolding unfolded` and is proved by `refl`. Written by tools/unfolded.
use Rattle.definition.specs.Lists.{filter as Lists-filter, find as Lists-find, any as Lists-any, all as Lists-all, take_until as Lists-take_until, written as Lists-written, flat_map as Lists-flat_map, chunks as Lists-chunks, firsts as Lists-firsts, repeats as Lists-repeats}
use Rattle.definition.specs.Names.{is_name_start as Names-is_name_start, is_name_byte as Names-is_name_byte, is_name as Names-is_name, bytes_at as Names-bytes_at, compare_names as Names-compare_names, same_name as Names-same_name, bytes as Names-bytes}
use Rattle.definition.specs.Cards.{card_from as Cards-card_from, words_of_card as Cards-words_of_card, cards_from as Cards-cards_from, cards_of as Cards-cards_of, is_heading as Cards-is_heading, is_part as Cards-is_part, is_root as Cards-is_root, is_type as Cards-is_type, is_extension as Cards-is_extension, definition_of as Cards-definition_of, part_order as Cards-part_order, place_in as Cards-place_in, is_unnamed as Cards-is_unnamed, item_end as Cards-item_end, name_end as Cards-name_end, unknown_kind as Cards-unknown_kind, empty_item as Cards-empty_item, item_outside_text as Cards-item_outside_text, item_before_sibling_end as Cards-item_before_sibling_end, item_outside_heading as Cards-item_outside_heading, name_outside_item as Cards-name_outside_item, name_not_item as Cards-name_not_item, name_amiss as Cards-name_amiss, name_no_name as Cards-name_no_name, misplaced_under as Cards-misplaced_under, misplaced as Cards-misplaced, fault as Cards-fault, faults as Cards-faults, fault_among as Cards-fault_among, place_after as Cards-place_after, fault_from as Cards-fault_from, card_fault as Cards-card_fault, broken_cards as Cards-broken_cards, document_fault as Cards-document_fault}
use Rattle.definition.specs.Grammar.{words as Grammar-words, place_of as Grammar-place_of, sort_of_name as Grammar-sort_of_name, within as Grammar-within, rule as Grammar-rule}
use Rattle.definition.specs.Derivation.{tokens_of as Derivation-tokens_of}
use Rattle.definition.specs.Lexical.{character as Lexical-character, ends_line as Lexical-ends_line, comment as Lexical-comment, is_digit as Lexical-is_digit, run as Lexical-run, integer as Lexical-integer, begun as Lexical-begun, fraction as Lexical-fraction, exponent as Lexical-exponent, number_of as Lexical-number_of, number as Lexical-number, is_hex as Lexical-is_hex, escape as Lexical-escape, plain as Lexical-plain, tripled as Lexical-tripled, block as Lexical-block, string as Lexical-string, punctuators as Lexical-punctuators, punctuator as Lexical-punctuator, named as Lexical-named, lexeme as Lexical-lexeme, tokens_from as Lexical-tokens_from, tokens_in as Lexical-tokens_in}
use Rattle.definition.specs.GrammarSets.{parts as GrammarSets-parts, nullable as GrammarSets-nullable, first as GrammarSets-first, follow as GrammarSets-follow, weight as GrammarSets-weight, rank as GrammarSets-rank, short as GrammarSets-short}
use Rattle.definition.specs.Machine.{has as Machine-has, first_set_of as Machine-first_set_of, empties as Machine-empties, beginning as Machine-beginning, emptied as Machine-emptied, pick as Machine-pick, weigh as Machine-weigh, settle as Machine-settle, after as Machine-after, walk as Machine-walk}
use Rattle.definition.specs.ItemCards.{amend as ItemCards-amend, begun as ItemCards-begun, of_kind as ItemCards-of_kind, ended as ItemCards-ended, named_by as ItemCards-named_by, noting as ItemCards-noting, passed as ItemCards-passed, next as ItemCards-next, listed as ItemCards-listed, nothing_listed as ItemCards-nothing_listed, cards_read as ItemCards-cards_read, level_after as ItemCards-level_after, too_deep as ItemCards-too_deep}
use Rattle.definition.specs.Reading.{judged as Reading-judged, reading as Reading-reading}
use Rattle.definition.specs.Headings.{name_of as Headings-name_of, named_card as Headings-named_card, heading_from as Headings-heading_from, group as Headings-group, headings_from as Headings-headings_from, headings as Headings-headings, is_kind as Headings-is_kind, is_type_definition as Headings-is_type_definition, is_type_extension as Headings-is_type_extension, is_named as Headings-is_named, same_named as Headings-same_named, defines_type as Headings-defines_type, extends_type as Headings-extends_type, is_of as Headings-is_of, defined_types as Headings-defined_types, definition as Headings-definition, extensions_of as Headings-extensions_of, is_missing as Headings-is_missing, is_orphan as Headings-is_orphan, orphans as Headings-orphans, directives as Headings-directives, standing as Headings-standing, directive_named as Headings-directive_named, schema_definition as Headings-schema_definition, schema_extensions as Headings-schema_extensions, number_of as Headings-number_of, parts as Headings-parts, parts_of as Headings-parts_of, alike as Headings-alike}
use Rattle.definition.specs.Catalogue.{component as Catalogue-component, components as Catalogue-components, own_components as Catalogue-own_components, of_extensions as Catalogue-of_extensions, part_in as Catalogue-part_in, alike_components as Catalogue-alike_components, kept as Catalogue-kept, component_row as Catalogue-component_row, is_component_of as Catalogue-is_component_of, list_of_kind as Catalogue-list_of_kind, under_type as Catalogue-under_type, under_schema as Catalogue-under_schema, block as Catalogue-block, type_components as Catalogue-type_components, type_row as Catalogue-type_row, type_rows as Catalogue-type_rows, adopted_row as Catalogue-adopted_row, adopted_rows as Catalogue-adopted_rows, adopted as Catalogue-adopted, directive_row as Catalogue-directive_row, directive_row_at as Catalogue-directive_row_at, directive_rows as Catalogue-directive_rows, default_name as Catalogue-default_name, kind_named as Catalogue-kind_named, default_root as Catalogue-default_root, default_roots as Catalogue-default_roots, is_root_component as Catalogue-is_root_component, unadopted_schema as Catalogue-unadopted_schema, adopted_schema as Catalogue-adopted_schema, schema_components as Catalogue-schema_components, schema_rows as Catalogue-schema_rows, rows as Catalogue-rows}
use Rattle.definition.specs.Errors.{error as Errors-error, heading_error as Errors-heading_error, collision_number as Errors-collision_number, collision as Errors-collision, collisions as Errors-collisions, directive_errors as Errors-directive_errors, schema_errors as Errors-schema_errors, schema_extension_errors as Errors-schema_extension_errors, redefinition_errors as Errors-redefinition_errors, type_errors as Errors-type_errors, late_extension_errors as Errors-late_extension_errors, type_extension_errors as Errors-type_extension_errors, errors_at as Errors-errors_at, reading_errors as Errors-reading_errors, adoption_errors as Errors-adoption_errors, orphan_errors as Errors-orphan_errors, no_schema_errors as Errors-no_schema_errors, drawing_errors as Errors-drawing_errors}
use Rattle.definition.specs.Merge.{merge as Merge-merge, numbers_from as Merge-numbers_from, is_numbered as Merge-is_numbered, tally as Merge-tally, tallies as Merge-tallies}
use Rattle.definition.specs.Refusals.{text_held as Refusals-text_held, cards_held as Refusals-cards_held, is_barred as Refusals-is_barred, barred_from as Refusals-barred_from, error_alone as Refusals-error_alone, zero_fault as Refusals-zero_fault, refuse as Refusals-refuse, document as Refusals-document, capacity_refusal as Refusals-capacity_refusal, opening_refusal as Refusals-opening_refusal, filing_refusal as Refusals-filing_refusal}
use Rattle.definition.specs.Store.{document_count as Store-document_count, adopt_word as Store-adopt_word, ignore_word as Store-ignore_word, text_used_of as Store-text_used_of, cards_used_of as Store-cards_used_of, document_row_from as Store-document_row_from, document_rows as Store-document_rows, stored_cards as Store-stored_cards, moved as Store-moved, unmoved as Store-unmoved, stored_document as Store-stored_document, documents_from as Store-documents_from, account_in as Store-account_in, too_short as Store-too_short, counts_sound as Store-counts_sound, rows_touch as Store-rows_touch, cards_counted as Store-cards_counted, switches_rise as Store-switches_rise, zero_unignored as Store-zero_unignored, rows_sound as Store-rows_sound, cards_sound as Store-cards_sound, zero_sound as Store-zero_sound, sound as Store-sound, decode as Store-decode, store_refusal as Store-store_refusal, moved_words as Store-moved_words, opened_words as Store-opened_words, opened_text as Store-opened_text, filed_row as Store-filed_row, filed_counts as Store-filed_counts, filed_words as Store-filed_words, filed_text as Store-filed_text, adopting_words as Store-adopting_words, ignoring_words as Store-ignoring_words}
use Rattle.definition.specs.LentRows.{cards_named as LentRows-cards_named, held_from as LentRows-held_from, held as LentRows-held, name_numbered as LentRows-name_numbered, lent_row as LentRows-lent_row, lent_rows as LentRows-lent_rows, is_row_named as LentRows-is_row_named, is_type_row as LentRows-is_type_row, is_type_row_named as LentRows-is_type_row_named, first_type_row as LentRows-first_type_row, is_default_root as LentRows-is_default_root, row_order as LentRows-row_order, in_order as LentRows-in_order, order_passes as LentRows-order_passes, same_card as LentRows-same_card, cards_once as LentRows-cards_once, wanted_kind as LentRows-wanted_kind, card_passes as LentRows-card_passes, cards_pass as LentRows-cards_pass, origin_passes as LentRows-origin_passes, origins_pass as LentRows-origins_pass, default_root_passes as LentRows-default_root_passes, default_roots_pass as LentRows-default_roots_pass, row_clauses as LentRows-row_clauses, passes as LentRows-passes, rows_refusal as LentRows-rows_refusal}
use Rattle.definition.specs.Lookups.{blocks as Lookups-blocks, is_block_named as Lookups-is_block_named, same_block as Lookups-same_block, first_types as Lookups-first_types, type_named as Lookups-type_named, is_row_of as Lookups-is_row_of, is_part_named as Lookups-is_part_named, span as Lookups-span, span_in as Lookups-span_in, root_card as Lookups-root_card, root_row as Lookups-root_row, root_span as Lookups-root_span, is_query_root as Lookups-is_query_root, meta_field as Lookups-meta_field, field_of as Lookups-field_of, field_named as Lookups-field_named, lists as Lookups-lists, subtype_of as Lookups-subtype_of, is_subtype_of as Lookups-is_subtype_of, is_schema_part as Lookups-is_schema_part, origin_of as Lookups-origin_of, origin_list as Lookups-origin_list, is_card as Lookups-is_card, extension_list as Lookups-extension_list, same_interface as Lookups-same_interface, implementing as Lookups-implementing, implementing_of as Lookups-implementing_of, all_implementing as Lookups-all_implementing, same_group as Lookups-same_group, is_implementing as Lookups-is_implementing, type_card as Lookups-type_card, group_of as Lookups-group_of, groups as Lookups-groups, group_words as Lookups-group_words}
use Rattle.definition.specs.Outcomes.{unchanged as Outcomes-unchanged, accepted as Outcomes-accepted, open_store as Outcomes-open_store, add_ast as Outcomes-add_ast, turned as Outcomes-turned, adopt_orphan_extensions as Outcomes-adopt_orphan_extensions, ignore_builtin_redefinitions as Outcomes-ignore_builtin_redefinitions, words_of_row as Outcomes-words_of_row, words_of_error as Outcomes-words_of_error, unbuilt as Outcomes-unbuilt, merged_into as Outcomes-merged_into, is_short as Outcomes-is_short, build_of as Outcomes-build_of, build as Outcomes-build, check_of as Outcomes-check_of, check_rows as Outcomes-check_rows, no_root as Outcomes-no_root, root_bytes as Outcomes-root_bytes, root_of as Outcomes-root_of, part_of as Outcomes-part_of, root_operation as Outcomes-root_operation, field_of_type as Outcomes-field_of_type, type_field as Outcomes-type_field, subtype_answer as Outcomes-subtype_answer, is_subtype as Outcomes-is_subtype, unlisted as Outcomes-unlisted, listed_in as Outcomes-listed_in, parse as Outcomes-parse, unless_refused as Outcomes-unless_refused, origins_of as Outcomes-origins_of, extensions_in as Outcomes-extensions_in, implementers_of as Outcomes-implementers_of, iter_origins as Outcomes-iter_origins, extensions as Outcomes-extensions, implementers_map as Outcomes-implementers_map}
use Rattle.definition.specs.Calls.{opened_account as Calls-opened_account, joined as Calls-joined, adopting_from as Calls-adopting_from, ignoring_from as Calls-ignoring_from, or_refused as Calls-or_refused, store as Calls-store, leaves as Calls-leaves, step as Calls-step, step_store as Calls-step_store, run_account as Calls-run_account, account_after as Calls-account_after, run_store as Calls-run_store}
use Rattle.definition.specs.Shown.{source as Shown-source, open_source as Shown-open_source, file_source as Shown-file_source, file_sources as Shown-file_sources, switched as Shown-switched, collected as Shown-collected, merged as Shown-merged, shown as Shown-shown, words_of_rows as Shown-words_of_rows, asked as Shown-asked, scalar_int as Shown-scalar_int}

unfoldable pub unfolded : Unit {0}
unfolding Lists-filter Lists-find Lists-any Lists-all Lists-take_until Lists-written Lists-flat_map Lists-chunks Lists-firsts Lists-repeats Names-is_name_start Names-is_name_byte Names-is_name Names-bytes_at Names-compare_names Names-same_name Names-bytes Cards-card_from Cards-words_of_card Cards-cards_from Cards-cards_of Cards-is_heading Cards-is_part Cards-is_root Cards-is_type Cards-is_extension Cards-definition_of Cards-part_order Cards-place_in Cards-is_unnamed Cards-item_end Cards-name_end Cards-unknown_kind Cards-empty_item Cards-item_outside_text Cards-item_before_sibling_end Cards-item_outside_heading Cards-name_outside_item Cards-name_not_item Cards-name_amiss Cards-name_no_name Cards-misplaced_under Cards-misplaced Cards-fault Cards-faults Cards-fault_among Cards-place_after Cards-fault_from Cards-card_fault Cards-broken_cards Cards-document_fault Grammar-words Grammar-place_of Grammar-sort_of_name Grammar-within Grammar-rule Derivation-tokens_of Lexical-character Lexical-ends_line Lexical-comment Lexical-is_digit Lexical-run Lexical-integer Lexical-begun Lexical-fraction Lexical-exponent Lexical-number_of Lexical-number Lexical-is_hex Lexical-escape Lexical-plain Lexical-tripled Lexical-block Lexical-string Lexical-punctuators Lexical-punctuator Lexical-named Lexical-lexeme Lexical-tokens_from Lexical-tokens_in GrammarSets-parts GrammarSets-nullable GrammarSets-first GrammarSets-follow GrammarSets-weight GrammarSets-rank GrammarSets-short Machine-has Machine-first_set_of Machine-empties Machine-beginning Machine-emptied Machine-pick Machine-weigh Machine-settle Machine-after Machine-walk ItemCards-amend ItemCards-begun ItemCards-of_kind ItemCards-ended ItemCards-named_by ItemCards-noting ItemCards-passed ItemCards-next ItemCards-listed ItemCards-nothing_listed ItemCards-cards_read ItemCards-level_after ItemCards-too_deep Reading-judged Reading-reading Headings-name_of Headings-named_card Headings-heading_from Headings-group Headings-headings_from Headings-headings Headings-is_kind Headings-is_type_definition Headings-is_type_extension Headings-is_named Headings-same_named Headings-defines_type Headings-extends_type Headings-is_of Headings-defined_types Headings-definition Headings-extensions_of Headings-is_missing Headings-is_orphan Headings-orphans Headings-directives Headings-standing Headings-directive_named Headings-schema_definition Headings-schema_extensions Headings-number_of Headings-parts Headings-parts_of Headings-alike Catalogue-component Catalogue-components Catalogue-own_components Catalogue-of_extensions Catalogue-part_in Catalogue-alike_components Catalogue-kept Catalogue-component_row Catalogue-is_component_of Catalogue-list_of_kind Catalogue-under_type Catalogue-under_schema Catalogue-block Catalogue-type_components Catalogue-type_row Catalogue-type_rows Catalogue-adopted_row Catalogue-adopted_rows Catalogue-adopted Catalogue-directive_row Catalogue-directive_row_at Catalogue-directive_rows Catalogue-default_name Catalogue-kind_named Catalogue-default_root Catalogue-default_roots Catalogue-is_root_component Catalogue-unadopted_schema Catalogue-adopted_schema Catalogue-schema_components Catalogue-schema_rows Catalogue-rows Errors-error Errors-heading_error Errors-collision_number Errors-collision Errors-collisions Errors-directive_errors Errors-schema_errors Errors-schema_extension_errors Errors-redefinition_errors Errors-type_errors Errors-late_extension_errors Errors-type_extension_errors Errors-errors_at Errors-reading_errors Errors-adoption_errors Errors-orphan_errors Errors-no_schema_errors Errors-drawing_errors Merge-merge Merge-numbers_from Merge-is_numbered Merge-tally Merge-tallies Refusals-text_held Refusals-cards_held Refusals-is_barred Refusals-barred_from Refusals-error_alone Refusals-zero_fault Refusals-refuse Refusals-document Refusals-capacity_refusal Refusals-opening_refusal Refusals-filing_refusal Store-document_count Store-adopt_word Store-ignore_word Store-text_used_of Store-cards_used_of Store-document_row_from Store-document_rows Store-stored_cards Store-moved Store-unmoved Store-stored_document Store-documents_from Store-account_in Store-too_short Store-counts_sound Store-rows_touch Store-cards_counted Store-switches_rise Store-zero_unignored Store-rows_sound Store-cards_sound Store-zero_sound Store-sound Store-decode Store-store_refusal Store-moved_words Store-opened_words Store-opened_text Store-filed_row Store-filed_counts Store-filed_words Store-filed_text Store-adopting_words Store-ignoring_words LentRows-cards_named LentRows-held_from LentRows-held LentRows-name_numbered LentRows-lent_row LentRows-lent_rows LentRows-is_row_named LentRows-is_type_row LentRows-is_type_row_named LentRows-first_type_row LentRows-is_default_root LentRows-row_order LentRows-in_order LentRows-order_passes LentRows-same_card LentRows-cards_once LentRows-wanted_kind LentRows-card_passes LentRows-cards_pass LentRows-origin_passes LentRows-origins_pass LentRows-default_root_passes LentRows-default_roots_pass LentRows-row_clauses LentRows-passes LentRows-rows_refusal Lookups-blocks Lookups-is_block_named Lookups-same_block Lookups-first_types Lookups-type_named Lookups-is_row_of Lookups-is_part_named Lookups-span Lookups-span_in Lookups-root_card Lookups-root_row Lookups-root_span Lookups-is_query_root Lookups-meta_field Lookups-field_of Lookups-field_named Lookups-lists Lookups-subtype_of Lookups-is_subtype_of Lookups-is_schema_part Lookups-origin_of Lookups-origin_list Lookups-is_card Lookups-extension_list Lookups-same_interface Lookups-implementing Lookups-implementing_of Lookups-all_implementing Lookups-same_group Lookups-is_implementing Lookups-type_card Lookups-group_of Lookups-groups Lookups-group_words Outcomes-unchanged Outcomes-accepted Outcomes-open_store Outcomes-add_ast Outcomes-turned Outcomes-adopt_orphan_extensions Outcomes-ignore_builtin_redefinitions Outcomes-words_of_row Outcomes-words_of_error Outcomes-unbuilt Outcomes-merged_into Outcomes-is_short Outcomes-build_of Outcomes-build Outcomes-check_of Outcomes-check_rows Outcomes-no_root Outcomes-root_bytes Outcomes-root_of Outcomes-part_of Outcomes-root_operation Outcomes-field_of_type Outcomes-type_field Outcomes-subtype_answer Outcomes-is_subtype Outcomes-unlisted Outcomes-listed_in Outcomes-parse Outcomes-unless_refused Outcomes-origins_of Outcomes-extensions_in Outcomes-implementers_of Outcomes-iter_origins Outcomes-extensions Outcomes-implementers_map Calls-opened_account Calls-joined Calls-adopting_from Calls-ignoring_from Calls-or_refused Calls-store Calls-leaves Calls-step Calls-step_store Calls-run_account Calls-account_after Calls-run_store Shown-source Shown-open_source Shown-file_source Shown-file_sources Shown-switched Shown-collected Shown-merged Shown-shown Shown-words_of_rows Shown-asked Shown-scalar_int
unfolded = tt
