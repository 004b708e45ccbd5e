use Rattle.std.proofs.Common.{◌≡◌, ◌∙◌, ◌∷◌, [], ◌++◌, List, ℕ, Bool, true, false, length, set, sym, ap, subst, arith}
use Rattle.std.proofs.Math.Seq.{set-append_seam}
use Rattle.clause_formulas.specs.Formulas.{negation, says}
use Rattle.clause_queries.specs.Queries.{IsReply, IsModelUnder, HasNoModelUnder}
use Rattle.clause_queries.specs.Descent.{IsFixed}
use Rattle.clause_queries.proofs.DescentLemmas.{fixed-stays, fixed-low, fixed-high}
use Rattle.clause_queries.proofs.query.Query.fix_column.Goals as goal

-- what stands in the list, by the contracts of the calls that made it
pushed : (fixed items : List ℕ) (column low : ℕ) → items ≡ fixed ++ low ∷ [] → low ≡ negation column → items ≡ fixed ++ negation column ∷ []
pushed fixed items column low is low_is = is ∙ ap (λ l. fixed ++ l ∷ []) low_is

value : (model seen : List Bool) (column : ℕ) (result b : Bool) → seen ≡ model → result ≡ says seen column → result ≡ b → says model column ≡ b
value model seen column result b seen_is result_is is = ap (λ m. says m column) (sym seen_is) ∙ sym result_is ∙ is

exchanged : (fixed items : List ℕ) (column low place : ℕ) → items ≡ fixed ++ low ∷ [] → place ≡ length fixed → set items place column ≡ fixed ++ column ∷ []
exchanged fixed items column low place is place_is = ap (λ xs. set xs place column) is ∙ ap (λ i. set (fixed ++ low ∷ []) i column) place_is ∙ set-append_seam fixed low [] column

pub returns-then-not-value_of-clause-fixed : goal.returns-then-not-value_of-clause-fixed
returns-then-not-value_of-clause-fixed c = λ _ assumptions columns is.
    subst (λ fixed. IsFixed c.args.self.now assumptions (columns ++ c.args.column ∷ []) fixed c.args.model.now.items)
    (sym (pushed c.args.fixed.now.items c.push.new.self.items c.args.column c.negation.result c.in_ok-push.ensures.items c.negation.ensures))
    (fixed-stays c.args.self.now assumptions columns c.args.fixed.now.items c.args.model.now.items c.args.column is
    (value c.args.model.now.items c.deref.result.now c.args.column c.value_of.result false c.deref.ensures.value c.value_of.ensures c.if-not-value_of.true))

pub returns-in-Model-clause-fixed : goal.returns-in-Model-clause-fixed
returns-in-Model-clause-fixed c = λ _ assumptions columns is.
    let list = pushed c.args.fixed.now.items c.push.new.self.items c.args.column c.negation.result c.in_ok-push.ensures.items c.negation.ensures in
    let reply = subst (IsReply c.args.self.now c.deref-2.result.now) c.in-Model.is c.in_ok-lower.ensures.reply in
    subst (λ fixed. IsFixed c.args.self.now assumptions (columns ++ c.args.column ∷ []) fixed c.in-Model.lower.items) (sym list)
    (fixed-low c.args.self.now assumptions columns c.args.fixed.now.items c.args.model.now.items c.in-Model.lower.items c.args.column is
    (subst (λ fixed. IsModelUnder c.args.self.now fixed c.in-Model.lower.items) (c.deref-2.ensures.value ∙ list) reply.0))

pub returns-in-NoModel-clause-fixed : goal.returns-in-NoModel-clause-fixed
returns-in-NoModel-clause-fixed c = λ _ assumptions columns is.
    let fixed = c.args.fixed.now.items in
    let column = c.args.column in
    let list = pushed fixed c.push.new.self.items column c.negation.result c.in_ok-push.ensures.items c.negation.ensures in
    let reply = subst (IsReply c.args.self.now c.deref-2.result.now) c.in-NoModel.is c.in_ok-lower.ensures.reply in
    let high = value c.args.model.now.items c.deref.result.now column c.value_of.result true c.deref.ensures.value c.value_of.ensures c.if-not-value_of.false in
    subst (λ items. IsFixed c.args.self.now assumptions (columns ++ column ∷ []) items c.args.model.now.items)
    (sym (exchanged fixed c.push.new.self.items column (negation column) c.len-place.result list (omega (arith, c.len-place.ensures, c.args.fixed.now.ok.0))))
    (fixed-high c.args.self.now assumptions columns fixed c.args.model.now.items column is high (subst (HasNoModelUnder c.args.self.now) (c.deref-2.ensures.value ∙ list) reply))
