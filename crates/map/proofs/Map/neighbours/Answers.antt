use Rattle.std.proofs.Common.{◌≡◌, ℕ, get_or, sym, ap, ◌∙◌}
use Rattle.marks.specs.Sets.{none}
use Rattle.marks.specs.View.{marked}
use Rattle.map.specs.Rows.{has}
use Rattle.map.specs.View.{linked}
use Rattle.map.proofs.Counts.{linked_off, size_neighbours}
use Rattle.map.proofs.Map.neighbours.Goals as goal

pub returns-then-n-self : goal.returns-then-n-self
returns-then-n-self c =
    let m = c.args.self.now in
    let same : (b : ℕ) → has m.rows c.from.result b ≡ linked m c.args.n b = λ b. ap (λ (k : ℕ). has m.rows k b) c.from.ensures in
    record { marks = same; len = size_neighbours m c.args.n (get_or m.rows c.from.result none) same }

pub returns-else-n-self : goal.returns-else-n-self
returns-else-n-self c =
    let m = c.args.self.now in
    let same : (b : ℕ) → marked c.empty.result b ≡ linked m c.args.n b = λ b. c.empty.ensures.marks b ∙ sym (linked_off m c.args.n b c.if-n-self.false) in
    record { marks = same; len = size_neighbours m c.args.n c.empty.result same }
