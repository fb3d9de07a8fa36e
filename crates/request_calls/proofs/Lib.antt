mod Ids
