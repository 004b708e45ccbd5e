use Rattle.std.proofs.Common.{◌<◌, ◌≤◌, inl, inr, arith}
use Rattle.bdd_store.specs.Arena.{top_of}
use Rattle.bdd_ops.proofs.operands.split.Goals as goal

pub returns : goal.returns
returns c =
    let within : c.min-var.result < c.args.store.now.vars = elim c.requires.open [
      | inl x ↦ elim x [
        | inl h ↦ omega (arith, c.of-a.ensures.within h)
        | inr h ↦ omega (arith, c.of-b.ensures.within h)
      ]
      | inr x ↦ elim x [
        | inl h ↦ omega (arith, c.of-c.ensures.within h)
        | inr h ↦ omega (arith, c.of-d.ensures.within h)
      ]
    ] in
    let below_a : c.min-var.result ≤ top_of c.args.store.now c.args.q.a = omega (arith, c.of-a.ensures.var) in
    let below_b : c.min-var.result ≤ top_of c.args.store.now c.args.q.b = omega (arith, c.of-b.ensures.var) in
    let below_c : c.min-var.result ≤ top_of c.args.store.now c.args.q.c = omega (arith, c.of-c.ensures.var) in
    let below_d : c.min-var.result ≤ top_of c.args.store.now c.args.q.d = omega (arith, c.of-d.ensures.var) in
    record {
      nodes = c.requires.nodes;
      within = within;
      most = λ v below. omega (arith, c.of-a.ensures.var, c.of-b.ensures.var, c.of-c.ensures.var, c.of-d.ensures.var, below.a, below.b, below.c, below.d);
      low = record {
        a = c.cofactors.ensures.lo c.args.store.now c.args.q.a c.requires.nodes.a c.of-a.ensures within below_a;
        b = c.cofactors-2.ensures.lo c.args.store.now c.args.q.b c.requires.nodes.b c.of-b.ensures within below_b;
        c = c.cofactors-3.ensures.lo c.args.store.now c.args.q.c c.requires.nodes.c c.of-c.ensures within below_c;
        d = c.cofactors-4.ensures.lo c.args.store.now c.args.q.d c.requires.nodes.d c.of-d.ensures within below_d;
      };
      high = record {
        a = c.cofactors.ensures.hi c.args.store.now c.args.q.a c.requires.nodes.a c.of-a.ensures within below_a;
        b = c.cofactors-2.ensures.hi c.args.store.now c.args.q.b c.requires.nodes.b c.of-b.ensures within below_b;
        c = c.cofactors-3.ensures.hi c.args.store.now c.args.q.c c.requires.nodes.c c.of-c.ensures within below_c;
        d = c.cofactors-4.ensures.hi c.args.store.now c.args.q.d c.requires.nodes.d c.of-d.ensures within below_d;
      };
    }
