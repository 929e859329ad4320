-- The link rule: the items are the places of a list of links.
use Rattle.std.specs.Prelude.{◌≡◌, ℕ, ◌<◌, ◌≤◌, Bool, false, ◌⊎◌, List, length, Ok, Err, Decides, Result}
use Rattle.std.proofs.Common.{arith}
use Rattle.refusal.specs.Entry.{entry, Why}
use Rattle.refusal.specs.declared.Refusal.{Refusal}
use Rattle.schedule.specs.Laws.{Laws}
use Rattle.map.specs.View.{nodes, linked}
use Rattle.map.specs.declared.Map.{Map}
use Rattle.rules.specs.Pairs.{pair_at, LinksTo, LinkClash, link_clash}
use Rattle.rules.specs.declared.link.LinkRule.{LinkRule}
use Rattle.rules.specs.Close.{link_mutual, link_apart}

abbrev pub link_items : LinkRule → ℕ
link_items r = length r.pairs.now

abbrev pub link_rule_clash : LinkRule → ℕ → ℕ → Bool
link_rule_clash r a b = link_clash r.map.now r.pairs.now a b

pub link_laws : Laws link_items link_rule_clash 512
link_laws = record {
  swap = λ r a b. link_mutual r.map.now r.pairs.now a b;
  apart = λ r a. link_apart r.map.now r.pairs.now a;
  few = λ r. r.few;
  cap = omega arith;
}

-- the pair at place i is the first that is wrong: an end is no node, or the pair is no link
abbrev pub NoNode : Map → List (ℕ × ℕ) → Type 0
NoNode m pairs = (i : ℕ) × (i < length pairs) × LinksTo m pairs i × ((nodes m ≤ (pair_at pairs i).0) ⊎ (nodes m ≤ (pair_at pairs i).1))

abbrev pub NoLink : Map → List (ℕ × ℕ) → Type 0
NoLink m pairs =
    (i : ℕ) × (i < length pairs) × LinksTo m pairs i × ((pair_at pairs i).0 < nodes m) × ((pair_at pairs i).1 < nodes m)
    × (linked m (pair_at pairs i).0 (pair_at pairs i).1 ≡ false)

-- what making a rule answers: a rule over just this map and list, or 2, then entry by entry 3 and 7
abbrev pub Made : Map → List (ℕ × ℕ) → Result LinkRule Refusal → Type 0
Made m pairs (Ok r) = (length pairs ≤ 512) × LinksTo m pairs (length pairs) × (r.map.now ≡ m) × (r.pairs.now ≡ pairs)
Made m pairs (Err e) =
    Why (entry e).number 2 (512 < length pairs)
    ((length pairs ≤ 512) × Why (entry e).number 3 (NoNode m pairs) (Why (entry e).number 7 (NoLink m pairs) ⊥))

-- the rule's test says what clashing means
abbrev pub Meant : Result LinkRule Refusal → Type 0
Meant (Ok r) = (a b : ℕ) → Decides (link_rule_clash r a b) (LinkClash r.map.now r.pairs.now a b)
Meant (Err _) = Unit {0}
