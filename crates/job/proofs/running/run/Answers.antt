use Rattle.std.proofs.Common.{ℕ, List, ◌++◌, length, drop, sym, ap, ◌∙◌, ap₂}
use Rattle.job.proofs.running.run.Goals as goal

pub returns : goal.returns
returns c =
    let (m, runs, is) = c.in_ok-text.ensures in
    let buffer = c.args.buffer.now in (
      c.if-buffer-lt-SPACE.false,
      (
        m,
        runs,
        ap length (c.as_bytes.ensures ∙ is),
        c.copy.ensures ∙ ap₂ (λ (x : List ℕ) (n : ℕ). x ++ drop n buffer) is (ap length (sym c.as_bytes.ensures)),
      ),
    )
