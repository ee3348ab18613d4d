-- Every case of a list holds; and, said once, what is unfolded to compute a case: all that the model computes with, and all that a case is made of.
use Rattle.std.specs.Prelude.{Bool, true}
use mathlib.Core.List.{List, [], ◌∷◌, flatten}
use Rattle.bits.specs.Choice.{pick, only_if, both, either, implies}
use Rattle.bits.specs.Number.{field, with_field}
use Rattle.bits.specs.Place.{get, put, digit}
use Rattle.bits.specs.Lane.{lane_field}
use Rattle.bits.specs.Loop.{each, tab, any_below, any_of, all_below, seek}
use Rattle.bits.specs.Sets.{has, mask_of, next_in, within, some_in, every_in}
use Rattle.bits.specs.Word.{word, put_word}
use Rattle.model.specs.Map.{find_trigger, trigger_at, is_trigger, setting_at, in_ranges, writable, clearing, kept}
use Rattle.model.specs.PathStates.{state_of, resting, commissioned}
use Rattle.model.specs.Answers.{is_done}
use Rattle.model.specs.Records.{is_in_progress, is_pass, is_passing, held_in, any_in_progress, on_lanes, with_stage, with_stages, with_on, with_ons, with_flag_on, freed_working, with_verdict, advanced_working}
use Rattle.model.specs.Registers.{with_status, with_pending, with_path_state, with_flags}
use Rattle.model.specs.Applications.{descriptor_at, list_reaches, host_lane_count, is_present, lookup}
use Rattle.model.specs.View.{app_sel, path_id, explicit, settings_at, setting_values, limits_of, settings_of, states_of, applications_of, view_of, is_used, same_path, path_of}
use Rattle.model.specs.Groups.{joined, released_with, in_group, group_of}
use Rattle.model.specs.Verdicts.{other_app_sel, misplaced, incomplete, crossing, out_of_limits, unsupported, too_late, wrong_state, apply_by, apply_verdict, path_release, release_verdict, verdict_of}
use Rattle.model.specs.Triggers.{is_marked, marked_stage, stage_after, marked_state, is_ignored, triggered_state}
use Rattle.model.specs.Work.{by_module, written_settings, with_active, copy_lane, copy_next, copy_group, is_release, pending_after, commission_mask, closed_state, closing_effect, copied_state, work_effect_by, work_effect_on, work_effect}
use Rattle.model.specs.Hardware.{some_bit, to_deinit, to_reinit, to_deactivate, signals_of, next_state, is_state, is_initialized, entered_image, moved_image, moved_path_image, hardware_image}
use Rattle.model.specs.Flags.{is_condition_flag, condition_image, condition_on, lasting_state, raised_image, sampled_image, sampled_on, sampled_state, is_read, shown_again_image, is_unmasked, interrupts, settled_image}
use Rattle.model.specs.Power.{module_state_of, shown_module_state, is_module_state, is_low_power, is_dark, holds_down, next_module_state, is_flagged, module_entered_image, module_moved_image, module_image}
use Rattle.model.specs.Pages.{find_page, page_start, selected_start, index_of, selected_image}
use Rattle.model.specs.Commands.{sum_of, check_code, right_code, is_code_right, status_among, status_of, support_byte, reply_byte, reply_of, with_reply_header, with_reply, replied_image, completed_image, command_image}
use Rattle.model.specs.Access.{without_reset, stored_by, stored_state, byte_written_state, bytes_written_state, writes, runs_command, resets, ended_state, shown_byte, taken_bytes, cleared_image, half_end, is_bad_access}
use Rattle.model.specs.Start.{is_state_byte, start_value, start_byte, started_state, reset_state}
use Rattle.model.specs.Sound.{same_trigger, same_set, same_verdict, agrees, same_settings}
use Rattle.model.specs.Refusals.{first_of, is_flat, is_back_to_front, wrong_length, image_refusals, start_refusals, no_such_lane, is_busy, is_unused, event_refusals}
use Rattle.model.specs.Step.{read_effect, event_effect, done_step, refused_step, answered_step, step, run, ending}
use Rattle.model.specs.File.{edition_among, record_count, is_header, is_whole_length, carried_image, first_bytes, record_in, written_bytes, line_bytes, used_bytes, is_record, call_of, event_of, events_in, is_well_formed, file_check_by, file_check_up_to}
use Rattle.model.specs.Text.{ascii, digit_text, decimal_up_to, decimal, hex_bytes, line, bad_line}
use Rattle.model.specs.Night.{lines_from, night_of, printed_text_by, printed_up_to}
use Rattle.model.specs.Stream.{has_image, after_image, leading_records, good_records, good_lines, is_all, streamed_by, streamed, begun, refused, took_header, started_by, whole_image, took_image, played, took_record, took_in, took, ended_in, ended, fed, fed_all}
use Rattle.cases.specs.Same.{same_bytes, same_stage, same_records, same_line, same_state}
use Rattle.cases.specs.Case.{lines_of, shown_by, holds, readied, holds_ready, changes_nothing, blank, holding, four_lanes, limited, applied}
use Rattle.cases.specs.Files.{record_of, padded, records_of, headed, file_in, flat, prints_in_one, lent, feeds, prints}

-- to unfold it is to unfold what its line names
unfoldable pub all_hold : List Bool → Bool
unfolding flatten pick only_if both either implies field with_field get put digit lane_field each tab any_below any_of all_below seek has mask_of next_in within some_in every_in word put_word find_trigger trigger_at is_trigger setting_at in_ranges writable clearing kept state_of resting commissioned is_done is_in_progress is_pass is_passing held_in any_in_progress on_lanes with_stage with_stages with_on with_ons with_flag_on freed_working with_verdict advanced_working with_status with_pending with_path_state with_flags descriptor_at list_reaches host_lane_count is_present lookup app_sel path_id explicit settings_at setting_values limits_of settings_of states_of applications_of view_of is_used same_path path_of joined released_with in_group group_of other_app_sel misplaced incomplete crossing out_of_limits unsupported too_late wrong_state apply_by apply_verdict path_release release_verdict verdict_of is_marked marked_stage stage_after marked_state is_ignored triggered_state by_module written_settings with_active copy_lane copy_next copy_group is_release pending_after commission_mask closed_state closing_effect copied_state work_effect_by work_effect_on work_effect some_bit to_deinit to_reinit to_deactivate signals_of next_state is_state is_initialized entered_image moved_image moved_path_image hardware_image is_condition_flag condition_image condition_on lasting_state raised_image sampled_image sampled_on sampled_state is_read shown_again_image is_unmasked interrupts settled_image module_state_of shown_module_state is_module_state is_low_power is_dark holds_down next_module_state is_flagged module_entered_image module_moved_image module_image find_page page_start selected_start index_of selected_image sum_of check_code right_code is_code_right status_among status_of support_byte reply_byte reply_of with_reply_header with_reply replied_image completed_image command_image without_reset stored_by stored_state byte_written_state bytes_written_state writes runs_command resets ended_state shown_byte taken_bytes cleared_image half_end is_bad_access is_state_byte start_value start_byte started_state reset_state same_trigger same_set same_verdict agrees same_settings first_of is_flat is_back_to_front wrong_length image_refusals start_refusals no_such_lane is_busy is_unused event_refusals read_effect event_effect done_step refused_step answered_step step run ending edition_among record_count is_header is_whole_length carried_image first_bytes record_in written_bytes line_bytes used_bytes is_record call_of event_of events_in is_well_formed file_check_by file_check_up_to ascii digit_text decimal_up_to decimal hex_bytes line bad_line lines_from night_of printed_text_by printed_up_to has_image after_image leading_records good_records good_lines is_all streamed_by streamed begun refused took_header started_by whole_image took_image played took_record took_in took ended_in ended fed fed_all same_bytes same_stage same_records same_line same_state lines_of shown_by holds readied holds_ready changes_nothing blank holding four_lanes limited applied record_of padded records_of headed file_in flat prints_in_one lent feeds prints
all_hold [] = true
all_hold (c ∷ cs) = both c (all_hold cs)
