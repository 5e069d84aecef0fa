use Rattle.std.proofs.Common.{◌≡◌, ◌<◌, rules, tests, drop, ◌∙◌, arith}
use Rattle.std.proofs.lemmas.Iterator.{IsFirst-from_position, YieldsList-from_slice}
use Rattle.std.proofs.lemmas.List.{take_rest}
use Rattle.std.proofs.option.Match.{if_some, if_none}
use Rattle.links.specs.Fields.{refs_in}
use Rattle.links.proofs.Rings.{past_used, unused_above, none_above}
use Rattle.links.proofs.ring.lowest_unused.Goals as goal

-- `_` is where the slice begins, as the code has it
pub returns-in_err-skipped-clause-none : goal.returns-in_err-skipped-clause-none
returns-in_err-skipped-clause-none c =
    let ls = c.args.links.now in
    let none = if_none _ _ c.in_err-skipped.was (IsFirst-from_position _ _ _ (λ r. refs_in r ≡ 0) (λ r. 0 < refs_in r) c.position.ensures.ran (YieldsList-from_slice (drop _ ls) (c.iter.ensures.rest ∙ take_rest ls _)) (λ x q k. search (rules, tests)) (λ x q k. search (rules, tests))) in
    rw c.from_residual.ensures (λ d u. omega (arith, none_above ls _ none d u))

pub returns : goal.returns
returns c =
    let ls = c.args.links.now in
    let first = if_some _ _ _ c.in_ok-skipped.was (IsFirst-from_position _ _ _ (λ r. refs_in r ≡ 0) (λ r. 0 < refs_in r) c.position.ensures.ran (YieldsList-from_slice (drop _ ls) (c.iter.ensures.rest ∙ take_rest ls _)) (λ x q k. search (rules, tests)) (λ x q k. search (rules, tests))) in
    record {
      some = (omega arith, unused_above ls _ c.in_ok-skipped.skipped _ (omega arith) first.0 first.1);
      lowest = λ d u h. omega (arith, past_used ls _ c.in_ok-skipped.skipped first.2 d u (omega arith));
      none = tt;
    }
