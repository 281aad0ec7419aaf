use Rattle.std.proofs.Common.{◌≡◌, ◌<◌, ◌++◌, length, Ok, Err, rules}
use Rattle.rg_growth.specs.Payloads.{growth_at, growth_bytes}
use Rattle.rg_growth.specs.declared.fault.GrowthFault.TheVariants.{BadGrowth}
use Rattle.rg_growth.proofs.Whole.{whole_more, whole_all, refused, nothing_left, growth_reads_back}
use Rattle.rg_growth.proofs.growth.Growth.decode.Goals as goal

pub returns-then-left-gt0-clause-agrees : goal.returns-then-left-gt0-clause-agrees
returns-then-left-gt0-clause-agrees c =
    let read : growth_at c.args.from.now c.args.payload.now ≡ Ok (c.in-Ok.growth, c.take_growth.new.bytes) = search rules in
    let more : 0 < length c.take_growth.new.bytes = search rules in
    whole_more _ c.in-Ok.growth c.take_growth.new.bytes read more

pub returns-then-left-gt0-clause-reads_back : goal.returns-then-left-gt0-clause-reads_back
returns-then-left-gt0-clause-reads_back c growth is = growth_reads_back c.args.from.now c.args.payload.now (Err BadGrowth) growth (returns-then-left-gt0-clause-agrees c) is

pub returns-else-left-gt0-clause-agrees : goal.returns-else-left-gt0-clause-agrees
returns-else-left-gt0-clause-agrees c =
    let read : growth_at c.args.from.now c.args.payload.now ≡ Ok (c.in-Ok.growth, c.take_growth.new.bytes) = search rules in
    let none : length c.take_growth.new.bytes ≡ 0 = search rules in
    whole_all _ c.in-Ok.growth c.take_growth.new.bytes read none

pub returns-else-left-gt0-clause-is : goal.returns-else-left-gt0-clause-is
returns-else-left-gt0-clause-is c =
    let none : length c.take_growth.new.bytes ≡ 0 = search rules in
    let stood : c.args.payload.now ≡ growth_bytes c.in-Ok.growth ++ c.take_growth.new.bytes = search (rules, c.in-Ok.ensures.ok) in
    record { is = nothing_left c.args.payload.now (growth_bytes c.in-Ok.growth) c.take_growth.new.bytes stood none; of = c.in-Ok.ensures.of }

pub returns-else-left-gt0-clause-reads_back : goal.returns-else-left-gt0-clause-reads_back
returns-else-left-gt0-clause-reads_back c growth is = growth_reads_back c.args.from.now c.args.payload.now (Ok c.in-Ok.growth) growth (returns-else-left-gt0-clause-agrees c) is

pub returns-in-Err-clause-agrees : goal.returns-in-Err-clause-agrees
returns-in-Err-clause-agrees c = refused _ c.in-Err.fault (search rules)

pub returns-in-Err-clause-reads_back : goal.returns-in-Err-clause-reads_back
returns-in-Err-clause-reads_back c growth is = growth_reads_back c.args.from.now c.args.payload.now (Err c.in-Err.fault) growth (returns-in-Err-clause-agrees c) is
