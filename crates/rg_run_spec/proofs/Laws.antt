-- What other crates may cite of the lemmas of this one.
pub use Rattle.rg_run_spec.proofs.Acknowledging.{line_among}
pub use Rattle.rg_run_spec.proofs.Alike.{accepted_alike}
pub use Rattle.rg_run_spec.proofs.Betweens.{at_rest_first, between_done, between_first, between_next, between_passed, events_begin, near_end, near_next}
pub use Rattle.rg_run_spec.proofs.Courses.{last_saved, on_course_last, on_course_put, on_course_since_wider, promised, stopped_at_rest}
pub use Rattle.rg_run_spec.proofs.Events.{next_after, read_fits}
pub use Rattle.rg_run_spec.proofs.Folds.{accepted-all, grown, out-is}
pub use Rattle.rg_run_spec.proofs.Hosts.{part_way_more, put, same_mid_step, same_stepped, stepped_then, stepped_then_mid_step, told_moments}
pub use Rattle.rg_run_spec.proofs.Keeping.{after_save, after_step, marks_prefix, mid_step_kept, near_more, rest_fewer, rest_kept, rest_more}
pub use Rattle.rg_run_spec.proofs.Lines.{looked_at}
pub use Rattle.rg_run_spec.proofs.Marking.{end_marks, open_marks, turn_marks}
pub use Rattle.rg_run_spec.proofs.Marks.{contains_none, contains_one, no_mark, stored_injective}
pub use Rattle.rg_run_spec.proofs.Prefixes.{prefix_more, prefix_then}
pub use Rattle.rg_run_spec.proofs.Runs.{end_stopped, told_since}
pub use Rattle.rg_run_spec.proofs.Steps.{Item, passed_over}
pub use Rattle.rg_run_spec.proofs.Texts.{are-append, end_are_lines, mark_no_lf, pieces_prefix, pieces_then, turn_are_lines}
pub use Rattle.rg_run_spec.proofs.Turns.{Stopped, step_stopped}
pub use Rattle.rg_run_spec.proofs.Verdicts.{is_accepted, is_full, is_late, is_moved}
pub use Rattle.rg_run_spec.proofs.Whole.{accepted_again, accepted_more, left_below, may_leave, out_again, out_more}
