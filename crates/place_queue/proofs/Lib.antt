mod Dropping
