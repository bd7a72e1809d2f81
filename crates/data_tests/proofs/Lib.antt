mod FiveRows
