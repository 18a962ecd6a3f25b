-- What shows the clauses of `are_plain` of `src/checks.rt`.
use Rattle.std.proofs.Common.{◌≡◌, true, arith}
use Rattle.tn_links.proofs.checks.are_plain.Goals as goal

pub lists-requires-clause-each : goal.lists-requires-clause-each
lists-requires-clause-each c = c.are_links.ensures.yes c.if-not-are_links.false

pub are_single-requires-clause-each : goal.are_single-requires-clause-each
are_single-requires-clause-each c = c.are_links.ensures.yes c.if-not-are_links.false

pub returns-clause-yes : goal.returns-clause-yes
returns-clause-yes c is =
    let single : c.are_single.result ≡ true = cc in record {
      plain = record {
        each = c.are_links.ensures.yes c.if-not-are_links.false;
        single = c.are_single.ensures.yes single;
      };
      few = omega (arith, c.if-links-gt-MOST_LINKS.false);
      few_nodes = omega (arith, c.if-nodes-gt-MOST_NODES.false);
    }
