use Rattle.std.proofs.Common.{ℕ, [], ◌∷◌, ◌<◌, List, Result, map, Ok, sym, ◌∙◌, arith}
use Rattle.std.proofs.lemmas.List.{ext_get_or, get_or-map}
use Rattle.refusal.specs.declared.Refusal.{Refusal}
use Rattle.rig.specs.declared.Lottery.{Lottery}
use Rattle.rig.specs.declared.Lottery.TheVariants.{Lost}
use Rattle.facts.specs.Examples.{lottery}
use Rattle.facts.proofs.Drawing.{three_contenders}
use Rattle.facts.proofs.rigs.three_contend.Goals as goal

abbrev numbers : List ℕ
numbers = 0 ∷ 1 ∷ 3 ∷ 7 ∷ 8 ∷ []

abbrev told : ℕ → Result Lottery Refusal
told v = Ok (lottery v)

pub returns : goal.returns
returns c = record {
  contenders = c.len-contenders.ensures ∙ c.contenders.ensures.len ∙ three_contenders c.path.result c.path.ensures;
  answers =
      let all = c.map.ensures.items in
      let told_at = λ (i : ℕ) (l : i < 5). let (_, _, call) = all.at i 0 (Ok Lost) l in call.met ∙ sym (get_or-map told numbers i 0 (Ok Lost) l) in
      ext_get_or (Ok Lost) c.map.result (map told numbers) all.long (λ i l. told_at i (let n = all.long in omega arith));
}
