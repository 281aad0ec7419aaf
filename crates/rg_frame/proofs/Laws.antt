-- What other crates may cite of the lemmas of this one.
pub use Rattle.rg_frame.proofs.FrameLaws.{frames-between, frames-push, length-body, length-frames, length-frames-push}
pub use Rattle.rg_frame.proofs.FrameLists.{fits_below, fits_push, frame_list-damaged, frame_list-has, has_payloads, payloads_one}
pub use Rattle.rg_frame.proofs.Gates.{none-empty}
pub use Rattle.rg_frame.proofs.Listing.{eight_small, has_listed}
pub use Rattle.rg_frame.proofs.Looked.{begins-none, damaged-torn, log-closed}
pub use Rattle.rg_frame.proofs.Payloads.{closed_payload, holds_payload, payload_between, payload_in-frame, payload_none, torn_payload}
pub use Rattle.rg_frame.proofs.Runs.{Same, for_some-after, in_file-then, others-then, writes-none, writes-others, writes-quiet, writes-then, writes-weaker}
