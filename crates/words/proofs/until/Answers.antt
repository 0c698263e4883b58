-- A search from the front.
use Rattle.std.proofs.Common.{◌≡◌, eqb, length, sym, ap, ◌∙◌, arith, rules}
use Rattle.std.specs.List.{position}
use Rattle.std.specs.Option.{unwrap_or}
use Rattle.std.proofs.lemmas.Iterator.{YieldsList-from_slice}
use Rattle.std.proofs.lemmas.Iterator.Search.{position_from_yields_List}
use borrow.Author.Tests.{tests}
use Rattle.text.specs.Text.{up_to}
use Rattle.text.proofs.ReadLaws.{up_to_position, up_to-most}
use Rattle.words.proofs.until.Goals as goal

pub returns : goal.returns
returns c =
    let l = c.args.l.now in
    let s = c.args.s in
    let p : c.position.result ≡ position (λ x. eqb x s) l =
    position_from_yields_List (λ x. eqb x s) _ _ c.position.result c.position.ensures.ran (YieldsList-from_slice l cc) (λ x b q k. search (rules, tests)) in
    let e : c.unwrap_or.result ≡ up_to s l = c.unwrap_or.ensures ∙ ap (λ o. unwrap_or o (length l)) p ∙ sym (up_to_position s l) in
    (e, omega (arith, up_to-most s l))
