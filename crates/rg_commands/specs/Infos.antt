-- What an `info` promises.
use Rattle.std.specs.Prelude.{ℕ, List, []}
use Rattle.rg_host.specs.Image.{Image}
use Rattle.rg_messages.specs.declared.status.Status.{Status}
use Rattle.rg_commands.specs.Call.{IsInfoAt}
use Rattle.rg_commands.specs.Outcome.{HostOutcome}
use Rattle.rg_commands.specs.Texts.{ShowsImage}

-- nothing stands before the line that says where a log is damaged
abbrev pub no_lines : Image → List (List ℕ)
no_lines image = []

-- What an `info` promises, of its host: its lines on the store are put once the whole log was read, and none at a damaged log.
abbrev pub InfoPromises : HostOutcome → Status → Type 0
InfoPromises h status = ShowsImage (IsInfoAt status) no_lines h status
