-- The definitions on worked rows.
use Rattle.std.proofs.Common.{◌≡◌, ℕ, pos, List, [], ◌∷◌, ◌++◌, true, false, Some, None, take, refl}
use Rattle.std.specs.Prelude.{codes}
use Rattle.std.specs.Fmt.{digits}
use Rattle.std.specs.Str.{is_utf8, chars}
use lib.Utf8.{encode}
use Rattle.rg_event.specs.declared.event.Event.{Event}
use Rattle.rg_event.specs.declared.schema.Field.{Field}
use Rattle.rg_event.specs.declared.value.Kind.TheVariants.{Text, Int}
use Rattle.rg_event.specs.declared.value.Value.TheVariants.{Int as IntValue, Text as TextValue}
use Rattle.rg_keywords.specs.declared.func.Func.TheVariants.{Count, Sum}
use Rattle.rg_keywords.specs.declared.op.Op.TheVariants.{Gt}
use Rattle.rg_metric.specs.declared.query.Agg.{Agg}
use Rattle.rg_metric.specs.Conditions.{compared}
use Rattle.rg_metric.specs.Queries.{Asked}
use Rattle.rg_row.specs.Fields.{split_from}
use Rattle.rg_host.specs.Lines.{lines_of, ended}
use Rattle.rg_run_spec.specs.Accepted.{events_after}
use Rattle.rg_run_spec.specs.Output.{text_of_run, Terms}

abbrev text_field : List ℕ → Field
text_field name = record { name = name; kind = Text }

abbrev payment_fields : List Field
payment_fields = text_field (codes "card") ∷ (text_field (codes "merchant") ∷ (record { name = codes "amount"; kind = Int } ∷ []))

abbrev count_and_sum : List Agg
count_and_sum = record { func = Count; field = 0 } ∷ (record { func = Sum; field = 3 } ∷ [])

-- queries over payments, of which so many are accepted, and each may be so much earlier than the last one: a commit after every
-- second event, a checkpoint after every fourth
abbrev paying_late : ℕ → List Asked → ℕ → Terms
paying_late grace queries most = record {
  basis = record { fields = payment_fields; queries = queries; most = most; header = false; grace = grace };
  commit = 2;
  save = 4;
}

abbrev paying : List Asked → ℕ → Terms
paying queries most = paying_late 0 queries most

-- the count and the sum over five minutes, by card
abbrev five_minutes : Terms
five_minutes = paying (record { aggs = count_and_sum; filter = None; group = 1 ∷ []; window = record { delay = 0; length = Some 300000 } } ∷ []) 1000

-- the sum over all time
abbrev all_time : Terms
all_time = paying (record { aggs = record { func = Sum; field = 3 } ∷ []; filter = None; group = []; window = record { delay = 0; length = None } } ∷ []) 1000

abbrev run : Terms → List Event → ℕ → ℕ → List ℕ → List ℕ
run terms held from first input = ended (text_of_run terms held from first (lines_of input))

abbrev paid : ℕ → ℕ → List ℕ → List ℕ → ℕ → Event
paid offset time card merchant amount = record { offset = offset; time = time; values = TextValue card ∷ (TextValue merchant ∷ (IntValue (pos amount) ∷ [])) }

abbrev three : List ℕ
three = codes "0,c1,m1,100\n299999,c1,m2,200\n300000,c1,m1,50\n"

abbrev three_events : List Event
three_events = paid 0 0 (codes "c1") (codes "m1") 100 ∷ (paid 1 299999 (codes "c1") (codes "m2") 200 ∷ (paid 2 300000 (codes "c1") (codes "m1") 50 ∷ []))

no_input : run five_minutes [] 0 0 [] ≡ codes "open 0 0 0\nstored 0\nsaved 0\ndone 0 0\n"
unfolding lines_of is_utf8 digits chars encode split_from
no_input = refl

three_payments : run five_minutes [] 0 0 three ≡ codes "open 0 0 0\n0 ok 1 100\n1 ok 2 300\nstored 2\n2 ok 2 250\nstored 3\nsaved 3\ndone 3 3\n"
unfolding lines_of is_utf8 digits chars encode split_from
three_payments = refl

the_store : events_after five_minutes.basis [] 0 (lines_of three) ≡ three_events
unfolding lines_of is_utf8 digits chars encode split_from
the_store = refl

equal_times : run five_minutes [] 0 0 (codes "7,c1,m1,1\n7,c1,m1,1\n") ≡ codes "open 0 0 0\n0 ok 1 1\n1 ok 2 2\nstored 2\nstored 2\nsaved 2\ndone 2 2\n"
unfolding lines_of is_utf8 digits chars encode split_from
equal_times = refl

late : run five_minutes [] 0 0 (codes "10,c1,m1,1\n9,c1,m1,1\n10,c1,m1,1\n") ≡ codes "open 0 0 0\n0 ok 1 1\n1 late\n2 ok 2 2\nstored 3\nstored 3\nsaved 2\ndone 3 2\n"
unfolding lines_of is_utf8 digits chars encode split_from
late = refl

abbrev graced : Terms
graced = paying_late 1 five_minutes.basis.queries 1000

-- an event that is earlier than the last one by one is moved to its time
moved : run graced [] 0 0 (codes "10,c1,m1,1\n9,c1,m1,1\n10,c1,m1,1\n") ≡ codes "open 0 0 0\n0 ok 1 1\n1 moved 2 2\nstored 2\n2 ok 3 3\nstored 3\nsaved 3\ndone 3 3\n"
unfolding lines_of is_utf8 digits chars encode split_from
moved = refl

-- and one that is earlier by two is late
late_with_grace : run graced [] 0 0 (codes "10,c1,m1,1\n8,c1,m1,1\n10,c1,m1,1\n") ≡ codes "open 0 0 0\n0 ok 1 1\n1 late\n2 ok 2 2\nstored 3\nstored 3\nsaved 2\ndone 3 2\n"
unfolding lines_of is_utf8 digits chars encode split_from
late_with_grace = refl

-- what is stored has the time of the event before it
moved_store : events_after graced.basis [] 0 (lines_of (codes "10,c1,m1,1\n9,c1,m1,2\n")) ≡ paid 0 10 (codes "c1") (codes "m1") 1 ∷ (paid 1 10 (codes "c1") (codes "m1") 2 ∷ [])
unfolding lines_of is_utf8 digits chars encode split_from
moved_store = refl

-- the last time is that of the store, too
moved_first : run graced three_events 3 3 (codes "299999,c1,m1,7\n") ≡ codes "open 3 3 3\n3 moved 3 257\nstored 4\nsaved 4\nstored 4\nsaved 4\ndone 4 4\n"
unfolding lines_of is_utf8 digits chars encode split_from
moved_first = refl

-- where there is no more room a line within the grace is one too many, and one past it is late
late_before_full : run (paying_late 1 five_minutes.basis.queries 1) [] 0 0 (codes "10,c1,m1,1\n9,c1,m1,1\n8,c1,m1,1\n") ≡ codes "open 0 0 0\n0 ok 1 1\n1 full\n2 late\nstored 1\nsaved 1\ndone 3 1\n"
unfolding lines_of is_utf8 digits chars encode split_from
late_before_full = refl

-- lines that ask for a commit, a checkpoint and a load ahead, and one that is none of them
controls : run five_minutes [] 0 0 (codes "0,c1,m1,1\n!commit\n!save\r\n!ahead\n!other\n") ≡ codes "open 0 0 0\n0 ok 1 1\n1 done\nstored 1\n2 done\nstored 1\nsaved 1\n3 done\n4 fields\nstored 1\nsaved 1\ndone 5 1\n"
unfolding lines_of is_utf8 digits chars encode split_from
controls = refl

-- what isn't exactly one of them is a row
nearly_controls : run five_minutes [] 0 0 (codes "!Commit\n !commit\n!commit \n") ≡ codes "open 0 0 0\n0 fields\n1 fields\n2 fields\nstored 0\nsaved 0\ndone 3 0\n"
unfolding lines_of is_utf8 digits chars encode split_from
nearly_controls = refl

-- one below the next offset of the store is passed over
controls_below : run five_minutes three_events 0 2 (codes "!commit\n!save\n") ≡ codes "open 3 3 0\n3 done\nstored 3\nsaved 3\nstored 3\nsaved 3\ndone 4 3\n"
unfolding lines_of is_utf8 digits chars encode split_from
controls_below = refl

-- a commit after every event
abbrev each_event : Terms
each_event = record { basis = five_minutes.basis; commit = 1; save = 1000 }

-- a load ahead marks nothing
ahead_last : run each_event [] 0 0 (codes "0,c1,m1,1\n1,c1,m1,1\n!ahead\n") ≡ codes "open 0 0 0\n0 ok 1 1\nstored 1\n1 ok 2 2\nstored 2\n2 done\nstored 2\nsaved 2\ndone 3 2\n"
unfolding lines_of is_utf8 digits chars encode split_from
ahead_last = refl

-- and a commit marks what is stored, though all was stored before
commit_last : run each_event [] 0 0 (codes "0,c1,m1,1\n1,c1,m1,1\n!commit\n") ≡ codes "open 0 0 0\n0 ok 1 1\nstored 1\n1 ok 2 2\nstored 2\n2 done\nstored 2\nstored 2\nsaved 2\ndone 3 2\n"
unfolding lines_of is_utf8 digits chars encode split_from
commit_last = refl

-- thirty days, with a header, default settings and lines that CR LF ends
abbrev thirty_days : Terms
thirty_days = record {
  basis = record {
    fields = payment_fields;
    queries = record { aggs = count_and_sum; filter = None; group = 1 ∷ []; window = record { delay = 0; length = Some 2592000000 } } ∷ [];
    most = 1099511627776;
    header = true;
    grace = 0;
  };
  commit = 1024;
  save = 65536;
}

-- a first line that is a header asks for nothing
control_as_header : run thirty_days [] 0 0 (codes "!commit\n!commit\n") ≡ codes "open 0 0 0\n0 head\n1 done\nstored 0\nstored 0\nsaved 0\ndone 2 0\n"
unfolding lines_of is_utf8 digits chars encode split_from
control_as_header = refl

-- a new query over the full past
another_query : run all_time three_events 0 3 (codes "300001,c9,m9,1\n") ≡ codes "open 3 3 0\n3 ok 351\nstored 4\nsaved 4\nstored 4\nsaved 4\ndone 4 4\n"
unfolding lines_of is_utf8 digits chars encode split_from
another_query = refl

stopped_before_the_gate : run five_minutes (take 2 three_events) 0 0 three ≡ codes "open 2 2 0\n2 ok 2 250\nstored 3\nsaved 3\ndone 3 3\n"
unfolding lines_of is_utf8 digits chars encode split_from
stopped_before_the_gate = refl

stopped_behind_the_gate : run five_minutes three_events 0 0 three ≡ codes "open 3 3 0\nstored 3\nsaved 3\ndone 3 3\n"
unfolding lines_of is_utf8 digits chars encode split_from
stopped_behind_the_gate = refl

abbrev at_most_two : Terms
at_most_two = paying five_minutes.basis.queries 2

full : run at_most_two [] 0 0 three ≡ codes "open 0 0 0\n0 ok 1 100\n1 ok 2 300\nstored 2\n2 full\nstored 2\nsaved 2\ndone 3 2\n"
unfolding lines_of is_utf8 digits chars encode split_from
full = refl

full_again : run at_most_two (take 2 three_events) 2 0 three ≡ codes "open 2 2 2\n2 full\nstored 2\nsaved 2\ndone 3 2\n"
unfolding lines_of is_utf8 digits chars encode split_from
full_again = refl

first_line_at_three : run five_minutes three_events 3 3 [] ≡ codes "open 3 3 3\nstored 3\nsaved 3\ndone 3 3\n"
unfolding lines_of is_utf8 digits chars encode split_from
first_line_at_three = refl

-- eight payments of one card, a millisecond apart
abbrev eight : List ℕ
eight = codes "0,c1,m1,1\n1,c1,m1,1\n2,c1,m1,1\n3,c1,m1,1\n4,c1,m1,1\n5,c1,m1,1\n6,c1,m1,1\n7,c1,m1,1\n"

eight_payments : run five_minutes [] 0 0 eight
    ≡ codes "open 0 0 0\n0 ok 1 1\n1 ok 2 2\nstored 2\n2 ok 3 3\n3 ok 4 4\nstored 4\nsaved 4\n4 ok 5 5\n5 ok 6 6\nstored 6\n6 ok 7 7\n7 ok 8 8\nstored 8\nsaved 8\nstored 8\nsaved 8\ndone 8 8\n"
unfolding lines_of is_utf8 digits chars encode split_from
eight_payments = refl

stopped_in_a_checkpoint : run five_minutes (events_after five_minutes.basis [] 0 (lines_of eight)) 4 0 eight ≡ codes "open 8 8 4\nstored 8\nsaved 8\ndone 8 8\n"
unfolding lines_of is_utf8 digits chars encode split_from
stopped_in_a_checkpoint = refl

-- a condition that no event meets
above_100 : run (paying (record { aggs = count_and_sum; filter = Some (compared 3 Gt (IntValue (pos 100))); group = 1 ∷ []; window = record { delay = 0; length = Some 300000 } } ∷ []) 1000) [] 0 0 (codes "0,c1,m1,50\n")
    ≡ codes "open 0 0 0\n0 ok 0 0\nstored 1\nsaved 1\ndone 1 1\n"
unfolding lines_of is_utf8 digits chars encode split_from
above_100 = refl

quotes : run five_minutes [] 0 0 (codes "1,\"c,1\",m1,7\n1,\"c1,m1,7\n\n1,c1,m1\n1,c\"1\",m1,7\n") ≡ codes "open 0 0 0\n0 ok 1 7\n1 row\n2 row\n3 fields\n4 row\nstored 1\nsaved 1\ndone 5 1\n"
unfolding lines_of is_utf8 digits chars encode split_from
quotes = refl

realistic : run thirty_days [] 0 0 (codes "ts,card,merchant,amount\r\n1617235200000,4111-XXXX-0042,\"Caf" ++ (195 ∷ (169 ∷ codes ", Lyon\",1299\r\n1617235260000,4111-XXXX-0042,Kiosk,350\r\n")))
    ≡ codes "open 0 0 0\n0 head\n1 ok 1 1299\n2 ok 2 1649\nstored 3\nsaved 2\ndone 3 2\n"
unfolding lines_of is_utf8 digits chars encode split_from
realistic = refl

-- a checkpoint where no commit is due
abbrev saving_more : Terms
saving_more = record { basis = five_minutes.basis; commit = 3; save = 2 }

checkpoint_by_itself : run saving_more [] 0 0 three ≡ codes "open 0 0 0\n0 ok 1 100\n1 ok 2 300\nstored 2\nsaved 2\n2 ok 2 250\nstored 3\nstored 3\nsaved 3\ndone 3 3\n"
unfolding lines_of is_utf8 digits chars encode split_from
checkpoint_by_itself = refl

-- the first line of the input has offset 2, and the store has the two before it
goes_on_at_two : run five_minutes (take 2 three_events) 0 2 (codes "300000,c1,m1,50\n") ≡ codes "open 2 2 0\n2 ok 2 250\nstored 3\nsaved 3\ndone 3 3\n"
unfolding lines_of is_utf8 digits chars encode split_from
goes_on_at_two = refl

-- a first line that is too long
too_long : ended (text_of_run five_minutes [] 0 0 (None ∷ (Some (codes "1,c1,m1,7") ∷ []))) ≡ codes "open 0 0 0\n0 long\n1 ok 1 7\nstored 2\nsaved 1\ndone 2 1\n"
unfolding is_utf8 digits chars encode split_from
too_long = refl
