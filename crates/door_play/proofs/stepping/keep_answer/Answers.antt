use Rattle.std.proofs.Common.{◌∷◌, ◌++◌, [], append-nil, sym, ap, ◌∙◌}
use Rattle.harp_types.specs.declared.reply.Reply.{Reply}
use Rattle.door_play.specs.Replies.{answers_in}
use Rattle.door_play.proofs.Hears.{no-answer, this-answer}
use Rattle.door_play.proofs.stepping.keep_answer.Goals as goal

pub returns-in_default : goal.returns-in_default
returns-in_default c =
    let heard = c.args.heard.now.items in
    sym (append-nil heard)
    ∙ ap (λ xs. heard ++ xs) (sym (no-answer c.args.line.now c.in_default.not-Answered))

pub returns : goal.returns
returns c =
    let it = c.in-Answered in
    c.in_ok-push.ensures.items
    ∙ ap (λ (r : Reply). c.args.heard.now.items ++ (it.number, r) ∷ []) c.replace.ensures.value
    ∙ ap (λ xs. c.args.heard.now.items ++ xs)
    (sym (ap (λ l. answers_in (l ∷ [])) it.is
    ∙ this-answer it.server it.client it.number it.index it.reply))
