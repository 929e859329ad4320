-- One link more of a full map.
use Rattle.std.proofs.Common.{◌≡◌, ℕ, ◌+◌, ◌<◌, Bool, false, not, ◌&&◌, ◌||◌, eqb, ltb, ap, arith}
use Rattle.std.proofs.Math.Path.{fun_ext}
use Rattle.std.proofs.lemmas.Bool.Decides.{nat_tests}
use Rattle.map.specs.Calls.{ends, linked_up, bare}
use Rattle.map.specs.View.{Net}
use Rattle.benches.specs.Complete.{complete}

-- x and y differ, and are both below a, or one is a and the other below b
abbrev joined : ℕ → ℕ → ℕ → ℕ → Bool
joined a b x y = not (eqb x y) && ((ltb x a && ltb y a) || ((eqb x a && ltb y b) || (eqb y a && ltb x b)))

-- n nodes, with the links so far: all among the nodes below a, and those of a with the nodes below b
abbrev pub so_far : ℕ → ℕ → ℕ → Net
so_far n a b = record { size = n; links = joined a b }

same_net : (n : ℕ) (p q : ℕ → ℕ → Bool) → ((x y : ℕ) → p x y ≡ q x y) → ◌≡◌ {A = Net} (record { size = n; links = p }) (record { size = n; links = q })
same_net n p q e = ap (λ (f : ℕ → ℕ → Bool). record { size = n; links = f }) (fun_ext (λ x. fun_ext (λ y. e x y)))

pub none_yet : (n : ℕ) → bare n ≡ so_far n 0 0
none_yet n = same_net n (λ _ _. false) (joined 0 0) (λ x y. grind (arith, nat_tests))

pub one_more : (n a b : ℕ) → b < a → linked_up (so_far n a b) a b ≡ so_far n a (b + 1)
one_more n a b l = same_net n (λ x y. joined a b x y || ends a b x y) (joined a (b + 1)) (λ x y. grind (arith, nat_tests))

pub row_done : (n a : ℕ) → so_far n a a ≡ so_far n (a + 1) 0
row_done n a = same_net n (joined a a) (joined (a + 1) 0) (λ x y. grind (arith, nat_tests))

pub all_done : (n : ℕ) → so_far n n 0 ≡ complete n
all_done n = same_net n (joined n 0) (λ x y. not (eqb x y) && (ltb x n && ltb y n)) (λ x y. grind (arith, nat_tests))
