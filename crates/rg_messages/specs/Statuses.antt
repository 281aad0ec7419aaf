-- The number of a status, and the last line that it puts.
use Rattle.std.specs.Prelude.{ℕ, List, [], codes}
use Rattle.rg_messages.specs.declared.status.Status.{Status}
use Rattle.rg_messages.specs.declared.status.Status.TheVariants.{Ok, Usage, Plan as BadPlan, Store, Read, Write, Disk, Limit, Memory, Gap, Differs}

-- the number of a status
abbrev pub number_of : Status → ℕ
number_of Ok = 0
number_of Usage = 2
number_of BadPlan = 3
number_of Store = 4
number_of Read = 5
number_of Write = 6
number_of Disk = 7
number_of Limit = 8
number_of Memory = 9
number_of Gap = 10
number_of Differs = 11

-- the last line that a status puts but for a refused plan, a refused store and a gap, with its LF
abbrev pub last_line : Status → List ℕ
last_line Ok = []
last_line Usage = codes "refused usage\n"
last_line BadPlan = []
last_line Store = []
last_line Read = codes "failed read\n"
last_line Write = []
last_line Disk = codes "failed disk\n"
last_line Limit = codes "failed limit\n"
last_line Memory = codes "failed memory\n"
last_line Gap = []
last_line Differs = []
