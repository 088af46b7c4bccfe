use Rattle.std.proofs.Common.{rules, codes, ◌≡◌}
use Rattle.std.proofs.lemmas.Result.{IfOk-weaker}
use Rattle.clap.specs.Words.{rule_of}
use Rattle.cli_words.specs.Parser.{kind_rule, option_rule}
use Rattle.cli_words.proofs.ClapApp.{adds}
use Rattle.cli_words.proofs.command_line.worded.Goals as goal

pub returns-clause-app : goal.returns-clause-app
returns-clause-app c =
    let s1 = adds _ _ _ _ kind_rule c.in_ok-arg.ensures c.new.ensures.app c.new.ensures.local c.kind.ensures.rule c.kind.ensures.local in
    let r1 : rule_of c.option.result ≡ option_rule (codes "branching") = search rules in
    let r2 : rule_of c.option-2.result ≡ option_rule (codes "queue") = search rules in
    let r3 : rule_of c.option-3.result ≡ option_rule (codes "workers") = search rules in
    let r4 : rule_of c.option-4.result ≡ option_rule (codes "nodes") = search rules in
    let r5 : rule_of c.option-5.result ≡ option_rule (codes "capacity") = search rules in
    let r6 : rule_of c.option-6.result ≡ option_rule (codes "seed") = search rules in
    let r7 : rule_of c.option-7.result ≡ option_rule (codes "size") = search rules in
    let s2 = adds _ _ _ _ _ c.in_ok-arg-2.ensures s1.0 s1.1 r1 c.option.ensures.local in
    let s3 = adds _ _ _ _ _ c.in_ok-arg-3.ensures s2.0 s2.1 r2 c.option-2.ensures.local in
    let s4 = adds _ _ _ _ _ c.in_ok-arg-4.ensures s3.0 s3.1 r3 c.option-3.ensures.local in
    let s5 = adds _ _ _ _ _ c.in_ok-arg-5.ensures s4.0 s4.1 r4 c.option-4.ensures.local in
    let s6 = adds _ _ _ _ _ c.in_ok-arg-6.ensures s5.0 s5.1 r5 c.option-5.ensures.local in
    let s7 = adds _ _ _ _ _ c.in_ok-arg-7.ensures s6.0 s6.1 r6 c.option-6.ensures.local in
    IfOk-weaker c.arg-8.result _ _ (λ new h. (adds _ _ new _ _ h s7.0 s7.1 r7 c.option-7.ensures.local).0) c.arg-8.ensures

pub returns-clause-local : goal.returns-clause-local
returns-clause-local c =
    let s1 = adds _ _ _ _ kind_rule c.in_ok-arg.ensures c.new.ensures.app c.new.ensures.local c.kind.ensures.rule c.kind.ensures.local in
    let r1 : rule_of c.option.result ≡ option_rule (codes "branching") = search rules in
    let r2 : rule_of c.option-2.result ≡ option_rule (codes "queue") = search rules in
    let r3 : rule_of c.option-3.result ≡ option_rule (codes "workers") = search rules in
    let r4 : rule_of c.option-4.result ≡ option_rule (codes "nodes") = search rules in
    let r5 : rule_of c.option-5.result ≡ option_rule (codes "capacity") = search rules in
    let r6 : rule_of c.option-6.result ≡ option_rule (codes "seed") = search rules in
    let r7 : rule_of c.option-7.result ≡ option_rule (codes "size") = search rules in
    let s2 = adds _ _ _ _ _ c.in_ok-arg-2.ensures s1.0 s1.1 r1 c.option.ensures.local in
    let s3 = adds _ _ _ _ _ c.in_ok-arg-3.ensures s2.0 s2.1 r2 c.option-2.ensures.local in
    let s4 = adds _ _ _ _ _ c.in_ok-arg-4.ensures s3.0 s3.1 r3 c.option-3.ensures.local in
    let s5 = adds _ _ _ _ _ c.in_ok-arg-5.ensures s4.0 s4.1 r4 c.option-4.ensures.local in
    let s6 = adds _ _ _ _ _ c.in_ok-arg-6.ensures s5.0 s5.1 r5 c.option-5.ensures.local in
    let s7 = adds _ _ _ _ _ c.in_ok-arg-7.ensures s6.0 s6.1 r6 c.option-6.ensures.local in
    IfOk-weaker c.arg-8.result _ _ (λ new h. (adds _ _ new _ _ h s7.0 s7.1 r7 c.option-7.ensures.local).1) c.arg-8.ensures
