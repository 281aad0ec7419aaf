-- The lines that are put out, each without its LF.
use Rattle.std.specs.Prelude.{ℕ, List, [], ◌∷◌, ◌++◌, codes, decimal}
use Rattle.std.specs.Fmt.{signed_decimal}
use Rattle.rg_metric.specs.declared.answer.Answer.{Answer}
use Rattle.rg_metric.specs.declared.answer.Answer.TheVariants.{Number, Ratio, Dash}
use Rattle.rg_reply.specs.declared.reply.Reply.{Reply}
use Rattle.rg_reply.specs.declared.reply.Reply.TheVariants.{Head, Done, Long, Row, Fields, Time, Value, Late, Full, Answered, Moved}
use Rattle.rg_reply.specs.declared.mark.Mark.{Mark}
use Rattle.rg_reply.specs.declared.mark.Mark.TheVariants.{Opened, Stored, Saved, Finished}

-- a number, a ratio as sum/count, or a dash
abbrev pub answer_text : Answer → List ℕ
answer_text (Number n) = signed_decimal n
answer_text (Ratio total count) = signed_decimal total ++ (codes "/" ++ decimal count)
answer_text Dash = codes "-"

-- each answer after one space
abbrev pub answers_text : List Answer → List ℕ
answers_text [] = []
answers_text (answer ∷ answers) = codes " " ++ (answer_text answer ++ answers_text answers)

abbrev pub reply_text : Reply → List ℕ
reply_text Head = codes "head"
reply_text Done = codes "done"
reply_text Long = codes "long"
reply_text Row = codes "row"
reply_text Fields = codes "fields"
reply_text Time = codes "time"
reply_text (Value column) = codes "value " ++ decimal column
reply_text Late = codes "late"
reply_text Full = codes "full"
reply_text (Answered answers) = codes "ok" ++ answers_text answers
reply_text (Moved answers) = codes "moved" ++ answers_text answers

-- what is answered to the line with this offset
abbrev pub reply_line : ℕ → Reply → List ℕ
reply_line offset reply = decimal offset ++ (codes " " ++ reply_text reply)

abbrev pub mark_line : Mark → List ℕ
mark_line (Opened next count from) = codes "open " ++ (decimal next ++ (codes " " ++ (decimal count ++ (codes " " ++ decimal from))))
mark_line (Stored next) = codes "stored " ++ decimal next
mark_line (Saved count) = codes "saved " ++ decimal count
mark_line (Finished lines count) = codes "done " ++ (decimal lines ++ (codes " " ++ decimal count))
