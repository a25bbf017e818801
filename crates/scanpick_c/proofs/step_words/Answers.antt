use Rattle.std.proofs.Common.{◌≡◌, ◌∙◌, sym, ap, ap₂, [], ◌∷◌, ◌++◌, length, map, rules, arith}
use Rattle.std.proofs.lemmas.List.{take_more_set, map_more, take_all}
use Rattle.scanpick_c.specs.Promise.{step_word}
use Rattle.scanpick_c.proofs.step_words.Goals as goal

pub loop-i-preserved : goal.loop-i-preserved
loop-i-preserved c =
    let stored = take_more_set c.loop-i.words c.loop-i.i c.step_word.result (omega arith) in
    let more = map_more step_word c.args.steps c.loop-i.i _ (omega arith) in
    (search rules, stored ∙ ap₂ (λ xs x. xs ++ x ∷ []) c.loop-i.invariant.1 c.step_word.ensures ∙ sym more)

pub returns : goal.returns
returns c =
    let long : length c.args.steps ≡ 64 = search rules in
    let i = c.loop-i.i in
    sym (take_all i c.loop-i.words (omega arith)) ∙ c.loop-i.invariant.1 ∙ ap (map step_word) (take_all i c.args.steps (omega arith))
