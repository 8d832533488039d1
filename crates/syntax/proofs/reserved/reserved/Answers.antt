use Rattle.std.proofs.Common.{sym, ap, ◌∙◌, rules}
use Rattle.std.specs.Option.{option_or}
use Rattle.syntax.specs.Tokens.{among, logic_words, arithmetic_words, control_words, declaration_words}
use Rattle.syntax.proofs.Tables.{among_four, either}
use Rattle.syntax.proofs.reserved.reserved.Goals as goal

pub returns : goal.returns
returns c =
    let w = c.args.bytes.now in
    let second = either c.logic.result (among arithmetic_words w) c.or_else.result (λ h. search rules) c.or_else.ensures in
    let third = either c.or_else.result (among control_words w) c.or_else-2.result (λ h. search rules) c.or_else-2.ensures in
    let fourth = either c.or_else-2.result (among declaration_words w) c.or_else-3.result (λ h. search rules) c.or_else-3.ensures in
    fourth
    ∙ ap (λ o. option_or o (among declaration_words w)) (third ∙ ap (λ o. option_or o (among control_words w)) (second ∙ ap (λ o. option_or o (among arithmetic_words w)) c.logic.ensures))
    ∙ sym (among_four w logic_words arithmetic_words control_words declaration_words)
