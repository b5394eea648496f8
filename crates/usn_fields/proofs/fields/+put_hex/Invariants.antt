-- The measure is how many digits are left.
use Rattle.usn_fields.proofs.fields.+put_hex.Given as goal

abbrev pub decreases-put_hex : goal.decreases-put_hex
decreases-put_hex l = l.k
