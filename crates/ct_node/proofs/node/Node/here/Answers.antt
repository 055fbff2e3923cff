use Rattle.std.proofs.Common.{◌∙◌, refl, subst, ◌≡◌}
use Rattle.std.proofs.lemmas.Bool.{lt-ltb, le-ltb}
use Rattle.std.proofs.lemmas.List.{length-map}
use Rattle.ct_node.specs.Nodes.{NodeValue, pair_in, pairs_in}
use Rattle.ct_node.specs.Places.{here}
use Rattle.ct_node.specs.declared.target.Place.TheVariants.{Here, End}
use Rattle.ct_node.specs.Stored.{value_of}
use Rattle.ct_node.proofs.Entries.{length-entries_of}
use Rattle.ct_node.proofs.node.Node.here.Goals as goal

pub returns-then-place-self : goal.returns-then-place-self
returns-then-place-self c =
    let n = c.self.inside in
    let long = length-map (value_of n).entries pair_in ∙ length-entries_of n.key_len n.leaf n.count n.cells in
    subst (λ (value : NodeValue). Here c.args.place ≡ here (pairs_in value) c.args.place) c.self.view_is
    (let told : Here c.args.place ≡ here (pairs_in (value_of n)) c.args.place = rw (long, lt-ltb c.args.place n.count c.if-place-self.true) refl in told)

pub returns-else-place-self : goal.returns-else-place-self
returns-else-place-self c =
    let n = c.self.inside in
    let long = length-map (value_of n).entries pair_in ∙ length-entries_of n.key_len n.leaf n.count n.cells in
    subst (λ (value : NodeValue). End ≡ here (pairs_in value) c.args.place) c.self.view_is
    (let told : End ≡ here (pairs_in (value_of n)) c.args.place = rw (long, le-ltb c.args.place n.count c.if-place-self.false) refl in told)
