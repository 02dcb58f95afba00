use Rattle.std.proofs.Common.{ℕ, not, ◌≡◌, ◌∙◌, ◌-◌, refl, length, take, drop}
use Rattle.std.proofs.lemmas.Fn.{says_at}
use Rattle.std.proofs.lemmas.Iterator.{YieldsList-from_slice}
use Rattle.std.proofs.lemmas.Iterator.Search.{position_from_yields_List}
use Rattle.assemble.proofs.Steps.{tail_whole, stopped, all_passed}
use Rattle.assemble.proofs.bytes.skip.Goals as goal

pub returns-in-Some : goal.returns-in-Some
returns-in-Some g c = λ f h.
    let a = c.args in
    let whole : c.iter.result.rest.now ≡ take (length a.s.now - a.at) (drop a.at a.s.now) = cc in
    let found = position_from_yields_List (λ (b : ℕ). not (f b)) _ _ c.position.result c.position.ensures.ran (YieldsList-from_slice (drop a.at a.s.now) (whole ∙ tail_whole a.s.now a.at))
    (λ x b q k. (g.met.F.Fn.1.step_stays a.ends (x, tt) b q k, h x.now b (says_at g.F.Fn ((g.met.F.FnMut.1.post_iff a.ends (x, tt) b).1 (q, k)) refl))) in
    stopped f a.s.now a.at c.position.result c.requires.inside found c.in-Some.n c.in-Some.is

pub returns-in-None : goal.returns-in-None
returns-in-None g c = λ f h.
    let a = c.args in
    let whole : c.iter.result.rest.now ≡ take (length a.s.now - a.at) (drop a.at a.s.now) = cc in
    let found = position_from_yields_List (λ (b : ℕ). not (f b)) _ _ c.position.result c.position.ensures.ran (YieldsList-from_slice (drop a.at a.s.now) (whole ∙ tail_whole a.s.now a.at))
    (λ x b q k. (g.met.F.Fn.1.step_stays a.ends (x, tt) b q k, h x.now b (says_at g.F.Fn ((g.met.F.FnMut.1.post_iff a.ends (x, tt) b).1 (q, k)) refl))) in
    all_passed f a.s.now a.at c.position.result c.requires.inside found c.in-None.is
