-- The definitions on worked rows.
use Rattle.std.proofs.Common.{◌≡◌, ℕ, pos, List, [], ◌∷◌, map, Bool, true, false, Option, Some, None, take, refl}
use Rattle.std.specs.Prelude.{codes}
use Rattle.std.specs.Fmt.{digits}
use Rattle.std.specs.Str.{is_utf8, chars}
use lib.Utf8.{encode}
use Rattle.rg_event.specs.declared.event.Event.{Event}
use Rattle.rg_event.specs.declared.schema.Field.{Field}
use Rattle.rg_event.specs.declared.value.Kind.TheVariants.{Text, Int}
use Rattle.rg_event.specs.declared.value.Value.TheVariants.{Int as IntValue}
use Rattle.rg_keywords.specs.declared.func.Func.TheVariants.{Count, Sum}
use Rattle.rg_keywords.specs.declared.op.Op.TheVariants.{Gt}
use Rattle.rg_metric.specs.declared.query.Agg.{Agg}
use Rattle.rg_metric.specs.declared.query.Window.{Window}
use Rattle.rg_metric.specs.Conditions.{Test, compared}
use Rattle.rg_metric.specs.Queries.{Asked}
use Rattle.rg_row.specs.Fields.{split_from}
use Rattle.rg_host.specs.Lines.{lines_of, ended}
use Rattle.rg_config.specs.Plans.{Planned}
use Rattle.rg_plan.specs.Plans.{plan_for, Tasks as TaskPlanned}
use Rattle.rg_engine.specs.Passed.{passed_count}
use Rattle.rg_run_spec.specs.Output.{text_of_run}
use Rattle.rg_task.specs.Terms.{terms_of}
use Rattle.rg_explain.specs.Listing.{task_text, check_text}

abbrev card : Field
card = record { name = codes "card"; kind = Text }

abbrev merchant : Field
merchant = record { name = codes "merchant"; kind = Text }

abbrev amount : Field
amount = record { name = codes "amount"; kind = Int }

abbrev sliding : ℕ → ℕ → Window
sliding length delay = record { delay = delay; length = Some length }

abbrev payments : Agg
payments = record { func = Count; field = 0 }

abbrev amounts : Agg
amounts = record { func = Sum; field = 3 }

abbrev counting : Option Test → List ℕ → Window → Asked
counting filter group window = record { aggs = payments ∷ []; filter = filter; group = group; window = window }

-- aggregators over five minutes of those with the same values in some columns
abbrev over_five_minutes : List ℕ → List Agg → Asked
over_five_minutes group aggs = record { aggs = aggs; filter = None; group = group; window = sliding 300000 0 }

-- a plan of these queries, without defaults
abbrev asking_all : List ℕ → List Field → List Asked → ℕ → Bool → Planned
asking_all stream fields queries events header = record {
  shape = record { stream = stream; time = codes "ts"; fields = fields };
  defaults = map (λ (field : Field). None) fields;
  queries = queries;
  settings = record { cache = 1; chunk = 2; commit = 2; save = 4; events = events; header = header; grace = 0 };
}

-- a plan of one query over payments
abbrev asking : List Field → Asked → ℕ → Bool → Planned
asking fields query events header = asking_all (codes "payments") fields (query ∷ []) events header

abbrev five_minutes : Planned
five_minutes = asking (card ∷ []) (counting None (1 ∷ []) (sliding 300000 0)) 100 false

-- what a run of the plan puts over an empty store
abbrev run : Planned → List ℕ → List ℕ
run plan input = ended (text_of_run (terms_of plan) [] 0 0 (lines_of input))

five_minutes_of_a_card : run five_minutes (codes "0,c1\n299999,c1\n300000,c1\n300000,c2\n") ≡ codes "open 0 0 0\n0 ok 1\n1 ok 2\nstored 2\n2 ok 2\n3 ok 1\nstored 4\nsaved 4\nstored 4\nsaved 4\ndone 4 4\n"
unfolding lines_of is_utf8 digits chars encode split_from
five_minutes_of_a_card = refl

-- payments above 100
abbrev dear : ℕ → Planned
dear events = asking (card ∷ (merchant ∷ (amount ∷ []))) (counting (Some (compared 3 Gt (IntValue (pos 100)))) (1 ∷ []) (sliding 300000 0)) events false

payments_above_100 : run (dear 100) (codes "0,c1,m1,100\n1,c1,m1,101\n2,c2,m1,500\n") ≡ codes "open 0 0 0\n0 ok 0\n1 ok 1\nstored 2\n2 ok 1\nstored 3\nsaved 3\ndone 3 3\n"
unfolding lines_of is_utf8 digits chars encode split_from
payments_above_100 = refl

full_at_two_events : run (dear 2) (codes "0,c1,m1,100\n1,c1,m1,101\n2,c2,m1,500\n") ≡ codes "open 0 0 0\n0 ok 0\n1 ok 1\nstored 2\n2 full\nstored 2\nsaved 2\ndone 3 2\n"
unfolding lines_of is_utf8 digits chars encode split_from
full_at_two_events = refl

checked : ended (check_text (dear 100))
    ≡ codes "query 0 SELECT count(*) FROM payments WHERE amount > 100 GROUP BY card OVER SLIDING 300000 ms\noffset 0\noffset 300000\nwindow 0 0 300000\nfilter 0 0 amount > 100\ngroup 0 0 card\nagg 0 0 count(*)\n"
unfolding digits
checked = refl

-- two queries share all nodes but one
sharing_nodes : ended (task_text (dear 100).shape (plan_for (over_five_minutes (1 ∷ []) (payments ∷ []) ∷ (over_five_minutes (1 ∷ []) (amounts ∷ (payments ∷ [])) ∷ []))))
    ≡ codes "offset 0\noffset 300000\nwindow 0 0 300000\nfilter 0 0 all\ngroup 0 0 card\nagg 0 0 count(*)\nagg 1 0 sum(amount)\n"
unfolding digits
sharing_nodes = refl

sharing_an_offset : ended (check_text (asking_all (codes "p") (card ∷ []) (counting None [] (sliding 5 0) ∷ (counting None [] (sliding 10 5) ∷ [])) 100 false))
    ≡ codes "query 0 SELECT count(*) FROM p OVER SLIDING 5 ms\nquery 1 SELECT count(*) FROM p OVER SLIDING 10 ms DELAYED BY 5 ms\noffset 0\noffset 5\noffset 15\nwindow 0 0 5\nwindow 1 5 15\nfilter 0 0 all\nfilter 1 1 all\ngroup 0 0 -\ngroup 1 1 -\nagg 0 0 count(*)\nagg 1 1 count(*)\n"
unfolding digits
sharing_an_offset = refl

-- the answers of two queries stand one after another
two_queries : run (asking_all (codes "payments") (dear 100).shape.fields (over_five_minutes (1 ∷ []) (payments ∷ (amounts ∷ [])) ∷ (over_five_minutes (2 ∷ []) (payments ∷ []) ∷ [])) 100 false) (codes "0,c1,m1,100\n299999,c1,m2,200\n300000,c1,m1,50\n")
    ≡ codes "open 0 0 0\n0 ok 1 100 1\n1 ok 2 300 1\nstored 2\n2 ok 2 250 1\nstored 3\nsaved 3\ndone 3 3\n"
unfolding lines_of is_utf8 digits chars encode split_from
two_queries = refl

-- those two queries share a window and its one filter node: a step for each event that enters, and one for each that leaves
abbrev two_groups : TaskPlanned
two_groups = plan_for (over_five_minutes (1 ∷ []) (payments ∷ (amounts ∷ [])) ∷ (over_five_minutes (2 ∷ []) (payments ∷ []) ∷ []))

abbrev payment_at : ℕ → ℕ → Event
payment_at offset time = record { offset = offset; time = time; values = [] }

abbrev three_payments : List Event
three_payments = payment_at 0 0 ∷ (payment_at 1 299999 ∷ (payment_at 2 300000 ∷ []))

steps_of_the_first : passed_count two_groups [] (take 1 three_payments) ≡ 1
steps_of_the_first = refl

steps_of_the_second : passed_count two_groups (take 1 three_payments) (take 2 three_payments) ≡ 1
steps_of_the_second = refl

steps_of_the_third : passed_count two_groups (take 2 three_payments) three_payments ≡ 2
steps_of_the_third = refl

delayed_by_five : run (asking (card ∷ []) (counting None [] (sliding 10 5)) 100 false) (codes "0,c1\n5,c1\n15,c1\n") ≡ codes "open 0 0 0\n0 ok 0\n1 ok 1\nstored 2\n2 ok 1\nstored 3\nsaved 3\ndone 3 3\n"
unfolding lines_of is_utf8 digits chars encode split_from
delayed_by_five = refl

in_and_out_between_events : run (asking (card ∷ []) (counting None [] (sliding 1 5)) 100 false) (codes "0,c1\n100,c1\n") ≡ codes "open 0 0 0\n0 ok 0\n1 ok 0\nstored 2\nstored 2\nsaved 2\ndone 2 2\n"
unfolding lines_of is_utf8 digits chars encode split_from
in_and_out_between_events = refl

late_and_fields : run (asking (card ∷ []) (counting None (1 ∷ []) (sliding 10 0)) 100 false) (codes "10,c1\n9,c1\nx\n20,c1\n") ≡ codes "open 0 0 0\n0 ok 1\n1 late\n2 fields\n3 ok 1\nstored 4\nstored 4\nsaved 2\ndone 4 2\n"
unfolding lines_of is_utf8 digits chars encode split_from
late_and_fields = refl

quotes_and_header : run (asking (card ∷ (amount ∷ [])) (counting None (1 ∷ []) (sliding 10 0)) 100 true) (codes "ts,card,amount\n1,\"c,1\",7\n1,\"c1,7\n\n1,c1\n1,c1,x") ≡ codes "open 0 0 0\n0 head\n1 ok 1\n2 row\n3 row\n4 fields\n5 value 2\nstored 2\nsaved 1\ndone 6 1\n"
unfolding lines_of is_utf8 digits chars encode split_from
quotes_and_header = refl
