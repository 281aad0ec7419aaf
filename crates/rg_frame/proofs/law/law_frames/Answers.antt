use Rattle.rg_frame.proofs.FrameLists.{frame_list-has, payloads_in-has, payloads_one, frame_list-damaged}
use Rattle.rg_frame.proofs.Listing.{from_frame_list, damaged_listed}
use Rattle.rg_frame.proofs.law.law_frames.Goals as goal

pub returns-clause-listed : goal.returns-clause-listed
returns-clause-listed c = frame_list-has

pub returns-clause-defined : goal.returns-clause-defined
returns-clause-defined c = payloads_in-has

pub returns-clause-unique : goal.returns-clause-unique
returns-clause-unique c = payloads_one

pub returns-clause-undefined : goal.returns-clause-undefined
returns-clause-undefined c = frame_list-damaged

pub returns-clause-is_listed : goal.returns-clause-is_listed
returns-clause-is_listed c = from_frame_list

pub returns-clause-is_undefined : goal.returns-clause-is_undefined
returns-clause-is_undefined c = damaged_listed
